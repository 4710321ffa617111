-- What is given back, by the kind of answer.
use mathlib.Core.Path.{◌≡◌, refl, sym, ap, ap₂, ◌∙◌}
use mathlib.Core.Bool.{Bool, true, false, cond}
use mathlib.Core.List.{List, []}
use Prim.Native.Nat.{ℕ}
use lib.ListN.{length}
use lib.Dec.{eqb}
use borrow.Author.Tests.{eq-eqb, ne_eqb}
use Rattle.report.specs.declared.Answer.{Answer}
use Rattle.report.specs.declared.Answer.TheVariants.{Accepted, Answered, Refused, TooManyWorlds}
use Rattle.report.specs.paper.LineAt.{lines_from}
use Rattle.report.specs.paper.Operations.{Outcome, refusal, answer}
use Rattle.billing.specs.paper.Pools.{shares, unplaced, pools}
use Rattle.billing.specs.paper.Pooling.{unpooled, pooled_over, pooled_by, pool}
use Rattle.billing.specs.Shown.{laid}
use Rattle.billing.specs.declared.pools.Pools.{Pools}
use Rattle.pooling.specs.Given.{Given, given}

-- field by field
pub given-same : (a b : Answer) (ls ms es fs : List ℕ) (p q : Pools) → a ≡ b → ls ≡ ms → es ≡ fs → p ≡ q
    → ◌≡◌ {A = Given} (record { answer = a; lines = ls; events = es; pools = p }) (record { answer = b; lines = ms; events = fs; pools = q })
given-same a b ls ms es fs p q f g h i = rw (f, g, h, i) refl

module _ (plan case amounts : List ℕ) (l e : ℕ) (a : Answer) (ls es : List ℕ) where
  abbrev given-answer : Outcome
  given-answer = record { answer = a; lines = ls; events = es }

  module _ (answered : given-answer ≡ answer plan case l e) where
    by_answer : {g : Given} → g ≡ given (pooled_by amounts l e given-answer a) → g ≡ given (pool plan case amounts l e)
    unfolding pool
    by_answer h = h ∙ ap (λ (o : Outcome). given (pooled_by amounts l e o o.answer)) answered

    -- an answer that is none with lines stays as it is
    pub given_other : ((n m w : ℕ) → a ≡ Answered n m w → ⊥) → (b : Answer) (p : Pools) → b ≡ a → p ≡ laid [] 0
        → ◌≡◌ {A = Given} (record { answer = b; lines = ls; events = es; pools = p }) (given (pool plan case amounts l e))
    given_other k b p f g = by_answer (given-same _ _ _ _ _ _ _ _ f refl refl g ∙ ap given (pick a k))
      where
        pick : (b : Answer) → ((n m w : ℕ) → b ≡ Answered n m w → ⊥) → unpooled given-answer ≡ pooled_by amounts l e given-answer b
        pick Accepted k = refl
        pick (Answered n m w) k = absurd (k n m w refl)
        pick (Refused n k) z = refl
        pick (TooManyWorlds n m) k = refl

    module _ (n m w : ℕ) (told : a ≡ Answered n m w) where
      by_length : (b : Bool) → eqb (length amounts) n ≡ b
          → pooled_by amounts l e given-answer a ≡ cond b (pooled_over (lines_from ls 0 n) amounts given-answer) (unpooled (refusal l e (Refused 15 0)))
      by_length b h =
          ap (pooled_by amounts l e given-answer) told ∙ ap (λ (b : Bool). cond b (pooled_over (lines_from ls 0 n) amounts given-answer) (unpooled (refusal l e (Refused 15 0)))) h

      -- a list of another length is turned away
      pub given_away : (length amounts ≡ n → ⊥) → length ls ≡ l → length es ≡ e → {g : Given} → g ≡ given (unpooled (refusal (length ls) (length es) (Refused 15 0)))
          → g ≡ given (pool plan case amounts l e)
      given_away z h i k =
          by_answer (k ∙ ap₂ (λ (l e : ℕ). given (unpooled (refusal l e (Refused 15 0)))) h i ∙ ap given (sym (by_length false (ne_eqb _ _ z))))

      pub given-pooled : length amounts ≡ n → (p : Pools) → p ≡ laid (pools (lines_from ls 0 n) amounts) (unplaced (shares (lines_from ls 0 n) amounts))
          → ◌≡◌ {A = Given} (record { answer = Answered n m w; lines = ls; events = es; pools = p }) (given (pool plan case amounts l e))
      unfolding pooled_over
      given-pooled z p k = by_answer (given-same _ _ _ _ _ _ _ _ (sym told) refl refl k ∙ ap given (sym (by_length true (eq-eqb _ _ z))))
