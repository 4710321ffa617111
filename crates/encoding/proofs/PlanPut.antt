-- Kind after kind of a sound plan.
use mathlib.Core.Path.{◌≡◌, refl, sym, ap, ◌∙◌}
use mathlib.Core.List.{List, [], ◌∷◌, ◌++◌, append-nil, map, flat_map}
use Prim.Native.Nat.{ℕ, zero, suc, min}
use native.Mathlib.Omega.{arith}
use lib.ListN.{length, take}
use lib.Seq.{take-nil}
use Rattle.sets.specs.paper.Sets.{All}
use Rattle.sets.proofs.LoopLaws.{length-below}
use Rattle.records.specs.paper.Fields.{Raw}
use Rattle.records.specs.paper.Plan.{plan_formats}
use Rattle.records.specs.paper.Plan as paper
use Rattle.records.specs.promises.Sound.{SoundCut}
use Rattle.records.specs.declared.plan.Cut.{Cut}
use Rattle.records.specs.code.Decoded.{decisions_of, cut_of}
use Rattle.records.proofs.Listing.{decided}
use Rattle.records.proofs.UsedLaws.{used_take, flat_append}
use Rattle.page.specs.Page.{Page, puts}
use Rattle.page.proofs.PageLaws.{puts_then}
use Rattle.encoding.specs.paper.Encoded.{record_bytes}
use Rattle.encoding.specs.code.Written.{Few}
use Rattle.encoding.proofs.FlatLaws.{flat_map_lem}

pub two_kinds : (f : Raw → List ℕ) (xs ys : List Raw) (p q r : Page) → q ≡ puts p (flat_map f xs) → r ≡ puts q (flat_map f ys) → r ≡ puts p (flat_map f (xs ++ ys))
two_kinds f xs ys p q r h k = puts_then p q r (flat_map f xs) (flat_map f ys) h k ∙ ap (puts p) (sym (flat_append f xs ys))

-- the records in use of a kind: the first n of an array
module _ {A B : Type 0} (raw : B → Raw) (made : A → B) (xs : List A) (count most n : ℕ) (long : length xs ≡ most) (some : n ≡ min count most) (p q : Page)
    (h : q ≡ puts p (flat_map (λ x. record_bytes plan_formats (raw (made x))) (take n xs))) where
  pub last_kind : q ≡ puts p (flat_map (record_bytes plan_formats) (map raw (map made (take count xs))))
  last_kind =
      h ∙ ap (λ ys. puts p (flat_map (λ x. record_bytes plan_formats (raw (made x))) ys)) (used_take xs count most n long some)
      ∙ ap (puts p) (flat_map_lem (λ x. record_bytes plan_formats (raw x)) made (take count xs) ∙ flat_map_lem (record_bytes plan_formats) raw (map made (take count xs)))

  pub next_kind : (ys : List Raw) (r : Page) → r ≡ puts q (flat_map (record_bytes plan_formats) ys) → r ≡ puts p (flat_map (record_bytes plan_formats) (map raw (map made (take count xs)) ++ ys))
  next_kind ys r k = two_kinds (record_bytes plan_formats) (map raw (map made (take count xs))) ys p q r last_kind k

-- each cut's decisions stand in its arrays
pub sound-few : (P : paper.Plan) (cs : List Cut) → All (SoundCut P) (map cut_of cs) → All Few cs
unfolding cut_of decisions_of
sound-few P [] h = tt
sound-few P (c ∷ cs) h =
    let l = h.0.few in
    let n = length-below c.decisions.count (decided c.decisions.edges c.decisions.verdicts) in
    (omega arith, sound-few P cs h.1)

-- one heading is all headings
one-heading : (f : Raw → List ℕ) (g : paper.Heading → Raw) (n : ℕ) (x : paper.Heading) → length (take n (x ∷ [])) ≡ 1 → f (g x) ≡ flat_map f (map g (take n (x ∷ [])))
unfolding flat_map
one-heading f g zero x e = let z : length {A = paper.Heading} [] ≡ 0 = refl in absurd (omega arith)
one-heading f g (suc n) x e = sym (append-nil (f (g x))) ∙ ap (λ (xs : List paper.Heading). f (g x) ++ flat_map f (map g xs)) (sym (take-nil n))

pub heading_then : (f : Raw → List ℕ) (g : paper.Heading → Raw) (n : ℕ) (x : paper.Heading) (ys : List Raw) (p q r : Page) → length (take n (x ∷ [])) ≡ 1 → q ≡ puts p (f (g x)) → r ≡ puts q (flat_map f ys)
    → r ≡ puts p (flat_map f (map g (take n (x ∷ [])) ++ ys))
heading_then f g n x ys p q r e h k = two_kinds f (map g (take n (x ∷ []))) ys p q r (h ∙ ap (puts p) (one-heading f g n x e)) k
