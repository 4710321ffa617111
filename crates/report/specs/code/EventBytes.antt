-- Events as bytes in the lent buffer.
use Rattle.std.specs.Prelude.{◌≡◌, true, ℕ, zero, suc, ◌+◌, ◌*◌, ◌<◌, length, take, drop}
use mathlib.Core.List.{List, [], ◌∷◌, ◌++◌, flat_map}
use Rattle.sets.specs.paper.Sets.{has, size}
use Rattle.report.specs.paper.EventList.{event_length}

-- the numbers of a set are below n
abbrev pub Below : ℕ → ℕ → Type 0
Below set n = (i : ℕ) → has set i ≡ true → i < n

-- events written from a place on, and the place behind them; all else as it was
pub record Writes (at : ℕ) (es : List (List ℕ)) (before after : List ℕ) (next : ℕ) : Type 0 where
  pub bytes : after ≡ take at before ++ (flat_map (λ e. e) es ++ drop (at + event_length * length es) before)
  pub place : next ≡ at + event_length * length es

-- the first n events of a buffer
unfoldable pub chunks : ℕ → List ℕ → List (List ℕ)
chunks zero s = []
chunks (suc n) s = take event_length s ∷ chunks n (drop event_length s)

-- how many numbers the first n sets have
unfoldable pub sizes : ℕ → (ℕ → ℕ) → ℕ
sizes zero sets = 0
sizes (suc n) sets = sizes n sets + size (sets n)
