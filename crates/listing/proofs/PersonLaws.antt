-- The persons of a block, one after another.
use mathlib.Core.Path.{◌≡◌, refl, sym, ap, ap₂, ◌∙◌}
use mathlib.Core.Bool.{Bool, true, false, cond}
use mathlib.Core.List.{List, ◌∷◌, ◌++◌}
use Prim.Native.Nat.{ℕ}
use Rattle.sets.specs.paper.Sets.{members, lowest}
use Rattle.sets.proofs.TurnLaws.{members-none}
use Rattle.page.specs.Page.{Page, put_byte, puts}
use Rattle.page.specs.Decimal.{decimal}
use Rattle.page.proofs.PageLaws.{puts_append, puts_first}
use Rattle.listing.specs.Text.{further, persons}

-- what is still to be put of these persons, `first` if none of the block is put yet
abbrev pub pending : Bool → List ℕ → List ℕ
pending first ps = cond first (persons ps) (further ps)

pending_next : (first : Bool) (p : ℕ) (ps : List ℕ) → pending first (p ∷ ps) ≡ cond first (decimal p) (44 ∷ decimal p) ++ further ps
unfolding persons further
pending_next true p ps = refl
pending_next false p ps = refl

-- one person: the first, or behind a comma
pub first_put : (p q : Page) (n : ℕ) (first : Bool) → first ≡ true → q ≡ puts p (decimal n) → q ≡ puts p (cond first (decimal n) (44 ∷ decimal n))
first_put p q n first e f = f ∙ ap (λ (b : Bool). puts p (cond b (decimal n) (44 ∷ decimal n))) (sym e)

pub later_put : (p q r : Page) (n : ℕ) (first : Bool) → first ≡ false → q ≡ put_byte p 44 → r ≡ puts q (decimal n) → r ≡ puts p (cond first (decimal n) (44 ∷ decimal n))
later_put p q r n first e f g =
    g ∙ ap (λ (q : Page). puts q (decimal n)) f ∙ sym (puts_first p 44 (decimal n)) ∙ ap (λ (b : Bool). puts p (cond b (decimal n) (44 ∷ decimal n))) (sym e)

-- a person more, and then the others
pub turn_put : (P Q : Page) (first other : Bool) (p m r : ℕ) → p ≡ lowest m → members m ≡ lowest m ∷ members r → Q ≡ puts P (cond first (decimal p) (44 ∷ decimal p)) → other ≡ false
    → puts Q (pending other (members r)) ≡ puts P (pending first (members m))
turn_put P Q first other p m r e l n o =
    ap₂ (λ (q : Page) (b : Bool). puts q (pending b (members r))) n o
    ∙ sym (puts_append P (cond first (decimal p) (44 ∷ decimal p)) (further (members r)))
    ∙ ap (puts P) (sym (pending_next first p (members r)) ∙ ap (pending first) (sym (l ∙ ap (λ (q : ℕ). q ∷ members r) (sym e))))

-- past the last person
pub none_put : (P Q R : Page) (first : Bool) (m : ℕ) → m ≡ 0 → first ≡ true → Q ≡ put_byte P 45 → puts P (pending first (members m)) ≡ R → Q ≡ R
unfolding persons puts
none_put P Q R first m h e f g = f ∙ sym (ap₂ (λ (b : Bool) (ps : List ℕ). puts P (pending b ps)) e (members-none m h)) ∙ g

pub all_put : (P R : Page) (first : Bool) (m : ℕ) → m ≡ 0 → first ≡ false → puts P (pending first (members m)) ≡ R → P ≡ R
unfolding further puts
all_put P R first m h e g = sym (ap₂ (λ (b : Bool) (ps : List ℕ). puts P (pending b ps)) e (members-none m h)) ∙ g
