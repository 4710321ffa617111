-- Every roster person has a place, and the line at it names the person.
use mathlib.Core.Path.{◌≡◌, refl, ap, ◌∙◌}
use mathlib.Core.Bool.{Bool, true, false, not, cond, ◌&&◌}
use mathlib.Core.List.{List, [], ◌∷◌}
use mathlib.Core.Logic.{◌⊎◌, inl, inr}
use Prim.Native.Nat.{ℕ, ◌<◌, ◌≤◌}
use lib.ListN.{get_or, length}
use lib.Dec.{eqb}
use Rattle.sets.specs.paper.Sets.{has, size, members, all_of, union_of}
use Rattle.records.specs.paper.Fields.{fine}
use Rattle.records.specs.paper.Plan.{Plan, checked_plan}
use Rattle.records.specs.paper.Case.{Case, read_case, case_heading}
use Rattle.sets.proofs.SetLaws.{lt_or_le, has_high}
use Rattle.sets.proofs.MemberLaws.{member_place}
use Rattle.records.proofs.AcceptedCase.{accepted_case}
use Rattle.sets.proofs.Local.{clash}
use Rattle.expressions.specs.paper.Bindings.{bindings, frame_of}
use Rattle.expressions.specs.paper.Variables.{Influence, influence, worlds}
use Rattle.worlds.specs.paper.View.{View}
use Rattle.report.specs.paper.Line.{line_bytes, bare_line, line_by, line_over, first_kind}
use Rattle.report.specs.paper.LineAt.{decoded}
use Rattle.report.specs.paper.Operations.{told, answer}
use Rattle.report.proofs.OpenedLaws.{roster-fits}
use Rattle.report.proofs.Answered.{views_of, line_of, line_for}
use Rattle.promises.specs.Partitioned.{person_at}
use Rattle.promises.proofs.Privacy.{line-bytes}

pub person-place : (P : Plan) (case : List ℕ) (C : Case) → read_case P case ≡ fine C → (p : ℕ) → has (case_heading C).roster p ≡ true
    → (i : ℕ) × (i < size (case_heading C).roster) × (get_or (members (case_heading C).roster) i 64 ≡ p)
person-place P case C read p h = member_place (case_heading C).roster p 64 (go (lt_or_le p 64)) h
  where
    go : (p < 64) ⊎ (64 ≤ p) → p < 64
    go (inl l) = l
    go (inr l) = clash h (has_high 64 (case_heading C).roster p (roster-fits P C (accepted_case P case C read)) l)

-- ---- every line names its person

by_person : (I : Influence) (p : ℕ) (stands roles : Bool) (v : View) (k c : ℕ) → (line_by I p stands roles v k c).person ≡ p
by_person I p true true v k c = refl
by_person I p true false v k c = refl
by_person I p false roles v k c = refl

pub over-person : (I : Influence) (p : ℕ) (vs : List View) → (line_over I p vs).person ≡ p
unfolding line_over
over-person I p [] = refl
over-person I p (v ∷ vs) =
    by_person I p (not (eqb v.block 0) && all_of (λ u. eqb u.block v.block) vs) (all_of (λ u. eqb u.role v.role) vs) v (first_kind (v ∷ vs))
    (union_of (λ u. u.citations) (v ∷ vs))

line-person : (P : Plan) (C : Case) (p : ℕ) → (line_for P C p).person ≡ p
unfolding line_for line_of
line-person P C p = go (eqb (length (case_heading C).complete) 0)
  where
    go : (b : Bool) → (cond b (bare_line 5 p) (line_of (frame_of P C) (bindings P C) p)).person ≡ p
    go true = refl
    go false = over-person (influence (frame_of P C) (bindings P C)) p (views_of (frame_of P C) (bindings P C) (worlds (frame_of P C) (bindings P C)) p)

pub line_names : (plan case : List ℕ) (l e : ℕ) (P : Plan) (C : Case) → checked_plan plan ≡ fine P → read_case P case ≡ fine C
    → (told (answer plan case l e).answer).refusal ≡ 0 → (i : ℕ) → i < size (case_heading C).roster
    → person_at (answer plan case l e).lines i ≡ get_or (members (case_heading C).roster) i 64
unfolding person_at decoded line_bytes
line_names plan case l e P C accepted read answered i h =
    ap (λ (s : List ℕ). get_or s 0 0) (line-bytes plan case l e P C accepted read answered i h)
    ∙ line-person P C (get_or (members (case_heading C).roster) i 64)
