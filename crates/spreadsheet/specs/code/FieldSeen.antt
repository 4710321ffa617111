-- What the code's fields stand for. No word and no number holds a quote, CR or LF, so the code takes a field that does for a broken one.
use Rattle.std.specs.Prelude.{Bool, cond, List, [], ◌∷◌, ℕ, suc, ◌-◌, ◌≤◌, ◌<◌, length, take, drop}
use Rattle.sets.specs.paper.Sets.{any_of}
use Rattle.spreadsheet.specs.paper.Quoting as paper
use Rattle.spreadsheet.specs.declared.field.Field.{Field}
use Rattle.spreadsheet.specs.declared.field.Field.TheVariants.{Text, Odd}

-- how many bytes stand before the first of those that f marks
unfoldable pub until : (ℕ → Bool) → List ℕ → ℕ
until f [] = 0
until f (b ∷ s) = cond (f b) 0 (suc (until f s))

-- a field without quote, CR and LF in its text
unfoldable pub clean : paper.Field → paper.Field
clean (paper.text t rest) = cond (any_of paper.strange t) paper.Field.broken (paper.text t rest)
clean paper.Field.broken = paper.Field.broken

abbrev pub clean_at : List ℕ → paper.Field
clean_at s = clean (paper.field_of s)

abbrev pub between : List ℕ → ℕ → ℕ → List ℕ
between s a e = take (e - a) (drop a s)

abbrev pub field_seen : List ℕ → Field → paper.Field
field_seen s (Text a e n) = paper.text (between s a e) (drop n s)
field_seen s Odd = paper.Field.broken

-- at ≤ start ≤ end ≤ next ≤ length
abbrev pub within : List ℕ → ℕ → Field → Type 0
within s at (Text a e n) = (at ≤ a) × ((a ≤ e) × ((e ≤ n) × (n ≤ length s)))
within s at Odd = Unit {0}

abbrev pub past : ℕ → Field → Type 0
past at (Text a e n) = at < n
past at Odd = Unit {0}
