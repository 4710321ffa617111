-- Row after row.
use mathlib.Core.Path.{◌≡◌, sym, ap, ap₂, ◌∙◌}
use mathlib.Core.List.{List}
use Prim.Native.Nat.{ℕ, ◌+◌, ◌-◌, ◌≤◌, ◌<◌}
use Rattle.sets.specs.paper.Sets.{members}
use Rattle.page.specs.Page.{Page, put_byte, puts}
use Rattle.page.specs.Decimal.{decimal}
use Rattle.page.proofs.PageLaws.{puts_append, put_last, puts_then}
use Rattle.report.specs.paper.Line.{Line}
use Rattle.report.specs.paper.LineAt.{line_at, decoded, lines_from}
use Rattle.billing.specs.paper.Households.{household_count}
use Rattle.listing.specs.Text.{feed, space, persons, cell, row, row_of, rows, header, units_word, last_row, table, refused_word, refused_row}
use Rattle.billing.specs.Shown.{Shows}
use Rattle.billing.specs.declared.fields.Fields.{Fields}
use Rattle.billing.proofs.UnitLaws.{lines_next, lines_none}

pub cell_put : (p q r : Page) (m n : ℕ) → m ≡ n → q ≡ puts p (decimal m) → r ≡ put_byte q space → r ≡ puts p (cell n)
unfolding cell
cell_put p q r m n e f g = put_last p q r (decimal n) space (f ∙ ap (λ (n : ℕ). puts p (decimal n)) e) g

pub refused_put : (p a b c d : Page) (n k : ℕ) → a ≡ puts p refused_word → b ≡ puts a (cell n) → c ≡ puts b (decimal k) → d ≡ put_byte c feed → d ≡ puts p (refused_row n k)
unfolding refused_row
refused_put p a b c d n k e f g h = puts_then p a d refused_word _ e (puts_then a b d (cell n) _ f (put_last b c d (decimal k) feed g h))

pub last_put : (p a b c : Page) (m n : ℕ) → m ≡ n → a ≡ puts p units_word → b ≡ puts a (decimal m) → c ≡ put_byte b feed → c ≡ puts p (last_row n)
unfolding last_row
last_put p a b c m n i e f g = puts_then p a c units_word _ e (put_last a b c (decimal n) feed (f ∙ ap (λ (n : ℕ). puts a (decimal n)) i) g)

pub table_put : (p a b c : Page) (ls : List Line) → a ≡ puts p header → b ≡ puts a (rows ls) → c ≡ puts b (last_row (household_count ls)) → c ≡ puts p (table ls)
unfolding table
table_put p a b c ls e f g = puts_then p a c header _ e (puts_then a b c (rows ls) _ f g)

-- the fields of a row one after another
pub row_put : (p a b c d e : Page) (person kind role block : ℕ) → a ≡ puts p (cell person) → b ≡ puts a (cell kind) → c ≡ puts b (cell role)
    → d ≡ puts c (persons (members block)) → e ≡ put_byte d feed → e ≡ puts p (row_of person kind role block)
unfolding row_of
row_put p a b c d e person kind role block f g h i j =
    puts_then p a e (cell person) _ f (puts_then a b e (cell kind) _ g (puts_then b c e (cell role) _ h (put_last c d e (persons (members block)) feed i j)))

shown : (l : Line) (r : Fields) → Shows l r → row_of r.person r.kind r.role r.block ≡ row l
shown l r h =
    ap₂ (λ (a b : ℕ). row_of a b r.role r.block) h.person h.kind ∙ ap₂ (λ (a b : ℕ). row_of l.person l.kind a b) h.role h.block

pub rows_next : (s : List ℕ) (k n : ℕ) (p q : Page) (r : Fields) → k < n → Shows (decoded (line_at s k)) r → q ≡ puts p (row_of r.person r.kind r.role r.block)
    → puts q (rows (lines_from s (k + 1) (n - (k + 1)))) ≡ puts p (rows (lines_from s k (n - k)))
unfolding rows
rows_next s k n p q r h w e =
    ap (λ (q : Page). puts q rest) (e ∙ ap (puts p) (shown (decoded (line_at s k)) r w))
    ∙ sym (puts_append p (row (decoded (line_at s k))) rest)
    ∙ sym (ap (λ (ls : List Line). puts p (rows ls)) (lines_next s k n h))
  where
    rest : List ℕ
    rest = rows (lines_from s (k + 1) (n - (k + 1)))

pub rows_end : (s : List ℕ) (k n : ℕ) (p : Page) → n ≤ k → p ≡ puts p (rows (lines_from s k (n - k)))
unfolding rows puts
rows_end s k n p h = sym (ap (λ (ls : List Line). puts p (rows ls)) (lines_none s k n h))
