-- The lines of a case that is answered: one for each roster person, rising.
use mathlib.Core.Path.{◌≡◌, refl, sym, ap, ◌∙◌, subst}
use mathlib.Core.Bool.{Bool, true, false, cond}
use mathlib.Core.List.{List, [], ◌∷◌, map}
use mathlib.Core.Logic.{◌⊎◌, inl, inr}
use Prim.Native.Nat.{ℕ, zero, suc, ◌+◌, ◌*◌}
use native.Mathlib.Omega.{arith}
use lib.ListN.{length}
use lib.Dec.{eqb, ltb}
use Rattle.sets.specs.paper.Sets.{members}
use Rattle.records.specs.paper.Fields.{Verdict, fine, refused, first_fault}
use Rattle.records.specs.paper.Plan.{Plan, checked_plan}
use Rattle.records.specs.paper.Case.{Case, read_case, case_heading, families_at, booleans_at}
use Rattle.expressions.specs.paper.Influence.{Frame}
use Rattle.expressions.specs.paper.Bindings.{Bound, bindings, bindable, frame_of, family_faults, boolean_faults}
use Rattle.expressions.specs.paper.Variables.{Values, world_count, worlds, influence}
use Rattle.worlds.specs.paper.Active.{active}
use Rattle.worlds.specs.paper.World.{world_of}
use Rattle.worlds.specs.paper.View.{View, view}
use Rattle.report.specs.paper.Line.{Line, line_bytes, bare_line, line_over}
use Rattle.report.specs.paper.EventList.{event_length}
use Rattle.report.specs.paper.Operations.{told, Opened, stopped, incomplete, ready, or_stop, unless_fault, heading_fault, too_many, counted, bound_and_counted, bound, opened, Outcome, filled, refusal, written, influences, all_worlds, lines_over, answer_ready, answer_opened, answer}
use Rattle.report.specs.declared.Answer.{Answer}
use Rattle.report.specs.declared.Answer.TheVariants.{Refused}

-- what the admissible worlds say of a person, and the person's line
abbrev pub views_of : Frame → List Bound → List Values → ℕ → List View
views_of F bs vs p = map (λ w. view F.plan w p) (map (λ v. world_of F.plan F.roster (influence F bs) (active F.plan v)) vs)

unfoldable pub line_of : Frame → List Bound → ℕ → Line
line_of F bs p = line_over (influence F bs) p (views_of F bs (worlds F bs) p)

-- with an incomplete roster, the bare line of kind 5
unfoldable pub line_for : Plan → Case → ℕ → Line
line_for P C p = cond (eqb (length (case_heading C).complete) 0) (bare_line 5 p) (line_of (frame_of P C) (bindings P C) p)

abbrev pub Answered : Outcome → Type 0
Answered o = (told o.answer).refusal ≡ 0

-- if it is answered, these are its lines
abbrev Gives : Outcome → List ℕ → Type 0
Gives o bytes = Answered o → o.lines ≡ bytes

either : (b : Bool) (x y : Outcome) (bytes : List ℕ) → Gives x bytes → Gives y bytes → Gives (cond b x y) bytes
either true x y bytes h k = h
either false x y bytes h k = k

either_opened : (l e : ℕ) (b : Bool) (x y : Opened) (bytes : List ℕ) → Gives (answer_opened l e x) bytes → Gives (answer_opened l e y) bytes
    → Gives (answer_opened l e (cond b x y)) bytes
either_opened l e true x y bytes h k = h
either_opened l e false x y bytes h k = k

-- a refusal is not answered
refused_gives : (l e : ℕ) (a : Answer) (bytes : List ℕ) → ((told a).refusal ≡ 0 → ⊥) → Gives (refusal l e a) bytes
refused_gives l e a bytes n h = absurd (n h)

pub too_many_lem : (count most : ℕ) → (told (too_many count most)).refusal ≡ 0 → ⊥
unfolding too_many
too_many_lem count most h = omega arith

written-lines : (l e : ℕ) (ls : List Line) (es : List (List ℕ)) (n : ℕ) → Gives (written l e ls es n) (filled l (map line_bytes ls))
unfolding written
written-lines l e ls es n = either (ltb e (event_length * length es)) _ _ _ (refused_gives l e (Refused 13 0) _ (λ h. omega arith)) (λ h. refl)

-- a first fault is none, or a refusal with a number
fault_split : {A : Type 0} (k : ℕ) (ns : List ℕ) (v : Verdict A) → (first_fault k ns v ≡ v) ⊎ ((n : ℕ) × (j : ℕ) × (first_fault k ns v ≡ refused (suc n) j))
unfolding first_fault
fault_split k [] v = inl refl
fault_split k (zero ∷ ns) v = fault_split (k + 1) ns v
fault_split k (suc n ∷ ns) v = inr (n, k, refl)

pub bindable_split : (C : Case) → (bindable C ≡ fine C) ⊎ ((n : ℕ) × (j : ℕ) × (bindable C ≡ refused (suc n) j))
unfolding bindable
bindable_split C = go (fault_split (families_at C) (family_faults [] C.families) rest) (fault_split (booleans_at C) (boolean_faults [] C.booleans) (fine C))
  where
    rest : Verdict Case
    rest = first_fault (booleans_at C) (boolean_faults [] C.booleans) (fine C)

    go : (first_fault (families_at C) (family_faults [] C.families) rest ≡ rest) ⊎ ((n : ℕ) × (j : ℕ) × (first_fault (families_at C) (family_faults [] C.families) rest ≡ refused (suc n) j))
        → (rest ≡ fine C) ⊎ ((n : ℕ) × (j : ℕ) × (rest ≡ refused (suc n) j))
        → (first_fault (families_at C) (family_faults [] C.families) rest ≡ fine C) ⊎ ((n : ℕ) × (j : ℕ) × (first_fault (families_at C) (family_faults [] C.families) rest ≡ refused (suc n) j))
    go (inr r) s = inr r
    go (inl e) (inl f) = inl (e ∙ f)
    go (inl e) (inr r) = inr (r.0, r.1, e ∙ r.2)

module _ (P : Plan) (C : Case) (l e : ℕ) where
  -- the bytes where each roster person has this line
  abbrev bytes_of : (ℕ → Line) → List ℕ
  bytes_of line = filled l (map line_bytes (map line (members (case_heading C).roster)))

  ready-lines : Gives (answer_opened l e (ready P C (bindings P C))) (bytes_of (line_of (frame_of P C) (bindings P C)))
  unfolding answer_ready lines_over all_worlds influences line_of
  ready-lines = written-lines l e _ _ _

  counted-lines : Gives (answer_opened l e (counted P C (bindings P C))) (bytes_of (line_of (frame_of P C) (bindings P C)))
  unfolding counted
  counted-lines =
      either_opened l e (ltb most count) (stopped (too_many count most)) (ready P C (bindings P C)) (bytes_of (line_of (frame_of P C) (bindings P C)))
      (refused_gives l e (too_many count most) (bytes_of (line_of (frame_of P C) (bindings P C))) (too_many_lem count most)) ready-lines
    where
      count : ℕ
      count = world_count P (bindings P C)

      most : ℕ
      most = (case_heading C).most_worlds

  counted-bound-lines : Gives (answer_opened l e (bound_and_counted P C)) (bytes_of (line_of (frame_of P C) (bindings P C)))
  unfolding bound_and_counted
  counted-bound-lines = go (bindable_split C)
    where
      Here : Verdict Case → Type 0
      Here v = Gives (answer_opened l e (or_stop v (λ C. counted P C (bindings P C)))) (bytes_of (line_of (frame_of P C) (bindings P C)))

      go : (bindable C ≡ fine C) ⊎ ((n : ℕ) × (j : ℕ) × (bindable C ≡ refused (suc n) j)) → Here (bindable C)
      go (inl f) = subst Here (sym f) counted-lines
      go (inr r) = subst Here (sym r.2) (refused_gives l e (Refused (suc r.0) r.1) _ (λ h. omega arith))

  bound-lines : Gives (answer_opened l e (bound P C)) (bytes_of (line_for P C))
  unfolding bound line_for
  bound-lines = go (eqb (length (case_heading C).complete) 0)
    where
      go : (b : Bool) → Gives (answer_opened l e (cond b (incomplete (case_heading C).roster) (bound_and_counted P C))) (bytes_of (λ p. cond b (bare_line 5 p) (line_of (frame_of P C) (bindings P C) p)))
      go true = written-lines l e _ _ _
      go false = counted-bound-lines

  heading-lines : (n : ℕ) → Gives (answer_opened l e (unless_fault n (bound P C))) (bytes_of (line_for P C))
  heading-lines zero = bound-lines
  heading-lines (suc n) = refused_gives l e (Refused (suc n) 0) _ (λ h. omega arith)

pub answered_lines : (plan case : List ℕ) (l e : ℕ) (P : Plan) (C : Case) → checked_plan plan ≡ fine P → read_case P case ≡ fine C → Answered (answer plan case l e)
    → (answer plan case l e).lines ≡ filled l (map line_bytes (map (line_for P C) (members (case_heading C).roster)))
unfolding answer opened
answered_lines plan case l e P C accepted read h =
    ap (λ (o : Opened). (answer_opened l e o).lines) through ∙ heading-lines P C l e (heading_fault P (case_heading C) l)
    (subst (λ (o : Opened). Answered (answer_opened l e o)) through h)
  where
    go : Plan → Case → Opened
    go P C = unless_fault (heading_fault P (case_heading C) l) (bound P C)

    through : or_stop (checked_plan plan) (λ P. or_stop (read_case P case) (go P)) ≡ go P C
    through = ap (λ (v : Verdict Plan). or_stop v (λ P. or_stop (read_case P case) (go P))) accepted ∙ ap (λ (v : Verdict Case). or_stop v (go P)) read
