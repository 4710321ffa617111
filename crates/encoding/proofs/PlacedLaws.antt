-- Plan bytes in a lent buffer: what an answer tells, of whatever makes plans.
use mathlib.Core.Path.{◌≡◌, refl, ap, ap₂, sym, ◌∙◌}
use mathlib.Core.Bool.{Bool, true, false}
use mathlib.Core.Logic.{◌⊎◌, inl, inr}
use mathlib.Core.List.{List, ◌++◌}
use Prim.Native.Nat.{ℕ, ◌-◌, ◌≤◌, ◌<◌}
use native.Mathlib.Omega.{arith}
use lib.ListN.{length, replicate}
use lib.Dec.{ltb}
use borrow.Author.Tests.{ltb-true, ltb-false, lt-ltb, le-ltb}
use Rattle.records.specs.paper.Fields.{Verdict, fine, refused}
use Rattle.records.specs.paper.Plan.{Plan}
use Rattle.encoding.specs.paper.Encoded.{plan_bytes}
use Rattle.encoding.specs.paper.Placed.{Kept, turned_away, kept, placed}
use Rattle.encoding.specs.promises.TooLong.{TooLong}

module _ (room number : ℕ) where
  pub kept-fits : (t : List ℕ) → length t ≤ room → kept room number t ≡ record { answer = fine (length t); bytes = t ++ replicate (room - length t) 0 }
  unfolding kept
  kept-fits t h = rw (le-ltb room (length t) h)

  pub kept-not : (t : List ℕ) → room < length t → kept room number t ≡ turned_away room number 0
  unfolding kept
  kept-not t h = rw (lt-ltb room (length t) h)

  -- a plan whose bytes stand in the buffer
  pub record PlanStands (v : Verdict Plan) (n : ℕ) : Type 0 where
    pub plan : Plan
    pub is : v ≡ fine plan
    pub long : n ≡ length (plan_bytes plan)
    pub fits : n ≤ room
    pub bytes : (placed room number v).bytes ≡ plan_bytes plan ++ replicate (room - n) 0

  fine-fits : (P : Plan) (n : ℕ) → length (plan_bytes P) ≤ room → (kept room number (plan_bytes P)).answer ≡ fine n → PlanStands (fine P) n
  unfolding placed
  fine-fits P n h e =
      let k = kept-fits (plan_bytes P) h in
      let l : n ≡ length (plan_bytes P) = let z : fine n ≡ fine (length (plan_bytes P)) = sym e ∙ ap (λ (x : Kept). x.answer) k in cc in
      record {
        plan = P;
        is = refl;
        long = l;
        fits = omega (arith, h, l);
        bytes = rw l (ap (λ (x : Kept). x.bytes) k);
      }

  pub placed-stands : (v : Verdict Plan) (n : ℕ) → (placed room number v).answer ≡ fine n → PlanStands v n
  unfolding placed
  placed-stands (fine P) n e = pick (ltb room (length (plan_bytes P))) refl
    where
      pick : (b : Bool) → ltb room (length (plan_bytes P)) ≡ b → PlanStands (fine P) n
      pick true t = absurd (let z : refused number 0 ≡ fine n = ap (λ (x : Kept). x.answer) (sym (kept-not (plan_bytes P) (ltb-true _ _ t))) ∙ e in let y : ◌≡◌ {A = ℕ} 0 1 = cc in omega arith)
      pick false t = fine-fits P n (ltb-false _ _ t) e
  placed-stands (refused k r) n e = absurd (let z : ◌≡◌ {A = ℕ} 0 1 = cc in omega arith)

  pub placed-refused : (v : Verdict Plan) (k r : ℕ) → (placed room number v).answer ≡ refused k r → (v ≡ refused k r) ⊎ ((k ≡ number) × (r ≡ 0) × TooLong room v)
  unfolding placed
  placed-refused (refused m j) k r e =
      let a : m ≡ k = cc in
      let b : j ≡ r = cc in
      inl (ap₂ refused a b)
  placed-refused (fine P) k r e = inr (pick (ltb room (length (plan_bytes P))) refl)
    where
      pick : (b : Bool) → ltb room (length (plan_bytes P)) ≡ b → (k ≡ number) × (r ≡ 0) × TooLong room (fine P)
      pick true t =
          let z : refused number 0 ≡ refused k r = ap (λ (x : Kept). x.answer) (sym (kept-not (plan_bytes P) (ltb-true _ _ t))) ∙ e in
          (cc, cc, record { plan = P; is = refl; long = ltb-true _ _ t })
      pick false t = absurd (let z : fine (length (plan_bytes P)) ≡ refused k r = ap (λ (x : Kept). x.answer) (sym (kept-fits (plan_bytes P) (ltb-false _ _ t))) ∙ e in let y : ◌≡◌ {A = ℕ} 0 1 = cc in omega arith)

  -- "result buffers are all zero"
  pub refused-zero : (v : Verdict Plan) (k r : ℕ) → (placed room number v).answer ≡ refused k r → (placed room number v).bytes ≡ replicate room 0
  unfolding placed
  refused-zero (refused m j) k r e = refl
  refused-zero (fine P) k r e = pick (ltb room (length (plan_bytes P))) refl
    where
      pick : (b : Bool) → ltb room (length (plan_bytes P)) ≡ b → (kept room number (plan_bytes P)).bytes ≡ replicate room 0
      pick true t = ap (λ (x : Kept). x.bytes) (kept-not (plan_bytes P) (ltb-true _ _ t))
      pick false t = absurd (let z : fine (length (plan_bytes P)) ≡ refused k r = ap (λ (x : Kept). x.answer) (sym (kept-fits (plan_bytes P) (ltb-false _ _ t))) ∙ e in let y : ◌≡◌ {A = ℕ} 0 1 = cc in omega arith)
