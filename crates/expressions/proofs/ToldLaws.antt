-- What is gathered of a fact binds it as the definitions do, and says whether it took its default.
use mathlib.Core.Path.{◌≡◌, refl, sym, ap, ap₂, ◌∙◌}
use mathlib.Core.Bool.{Bool, true, false, ◌&&◌, not, cond, not-not}
use mathlib.Core.List.{List, [], ◌∷◌, map}
use Prim.Native.Nat.{ℕ, ◌<◌, min}
use native.Mathlib.Omega.{arith}
use lib.ListN.{length, get_or, take}
use lib.Dec.{eqb, ltb}
use borrow.Author.Tests.{eqb-true, eqb-false, ltb-true}
use Rattle.sets.specs.paper.Sets.{has, below}
use Rattle.records.specs.paper.Plan as paper
use Rattle.records.specs.paper.Plan.{get_fact, is_boolean}
use Rattle.records.specs.paper.Case.{Case, Family, case_heading}
use Rattle.records.specs.code.Decoded.{no_election, plan_of, case_of, fact_of, family_of, election_of}
use Rattle.records.specs.declared.plan.Fact.{Fact}
use Rattle.records.specs.declared.plan.Plan.{Plan as CodedPlan}
use Rattle.records.specs.declared.plan.Facts.{Facts}
use Rattle.records.specs.declared.case.Case.{Case as CodedCase}
use Rattle.records.specs.declared.case.Families.{Families}
use Rattle.records.proofs.NamingLaws.{boolean_of_lem, family_of_lem}
use Rattle.records.proofs.Listing.{below_ext}
use Rattle.expressions.specs.paper.Rules.{fact_count}
use Rattle.expressions.specs.paper.Bindings.{Bound, unbound, unknown, observed, said_unknown, elections, by_default, default_of, scoped, in_family, bound_boolean, binding_by, bindings_by, binding_at, took_default_by}
use Rattle.expressions.specs.code.Sight.{nothing, bound_by}
use Rattle.expressions.specs.code.Codes.{bound_of, silent_code}
use Rattle.expressions.specs.code.Told.{TellsFact, boolean_by, relation_by, binding_from, default_from}
use Rattle.expressions.specs.declared.observations.Sight.{Sight}
use Rattle.expressions.specs.declared.observations.Sights.{Sights}
use Rattle.expressions.specs.declared.elections.Elected.{Elected}
use Rattle.expressions.specs.declared.bindings.Told.{Told}
use Rattle.expressions.proofs.ListLaws.{made_at, made-length}
use Rattle.expressions.proofs.SeenLaws.{look_bound, look_any}
use Rattle.expressions.proofs.FamilyLaws.{family-none, family-some}
use Rattle.expressions.proofs.ElectionLaws.{default-first}
use Rattle.expressions.proofs.FactLaws.{binding_none, binding_boolean, binding_relation, Filled, filled_end}
use Rattle.sets.proofs.MaskLaws.{built, built_has}

swapped : {A : Type 0} (b : Bool) (x y : A) → cond (not b) x y ≡ cond b y x
swapped true x y = refl
swapped false x y = refl

module _ (P : paper.Plan) (C : Case) (f : ℕ) (t : Told) (told : TellsFact P C f t) where
  boolean_told : boolean_by t ≡ bound_boolean P C f
  unfolding boolean_by bound_boolean
  boolean_told =
      let z = eqb (length (said_unknown C f)) 0 in
      let silent = by_default (default_of (elections P f)) in
      ap (λ (b : Bool). cond b unknown (bound_by t.seen (by_default (default_of (election_of t.election))))) told.unknown
      ∙ swapped z unknown (bound_by t.seen (by_default (default_of (election_of t.election))))
      ∙ ap (λ (x : Bound). cond z x unknown)
      (ap₂ bound_by told.seen (ap by_default (ap default_of told.election ∙ default-first (elections P f))) ∙ look_bound (observed C f) silent)

  relation-told : (ms : List Family) → relation_by (silent_code ms) t.seen ≡ in_family ms (observed C f)
  unfolding relation_by
  relation-told ms = pick (eqb (silent_code ms) 0) refl
    where
      pick : (b : Bool) → eqb (silent_code ms) 0 ≡ b → cond b unknown (bound_by t.seen (bound_of (silent_code ms))) ≡ in_family ms (observed C f)
      pick true e = family-none ms (observed C f) (eqb-true _ _ e)
      pick false e =
          ap (λ (s : Sight). bound_by s (bound_of (silent_code ms))) told.seen ∙ look_bound (observed C f) (bound_of (silent_code ms))
          ∙ family-some ms (observed C f) (eqb-false _ _ e)

  module _ (x : Fact) (is : fact_of x ≡ get_fact P f) (set : ℕ) where
    sort : is_boolean (get_fact P f) ≡ x.boolean
    sort = ap is_boolean (sym is) ∙ boolean_of_lem x

    pub told_binding : binding_from (has set f) x t C.families (case_heading C).scope ≡ binding_by P C set f
    unfolding binding_from
    told_binding = pick (has set f) x.boolean refl refl
      where
        pick : (h b : Bool) → has set f ≡ h → x.boolean ≡ b
            → cond h (cond b (boolean_by t) (relation_by (silent_code (scoped (x.family ∷ []) (case_heading C).scope C.families)) t.seen)) unbound ≡ binding_by P C set f
        pick false b h e = binding_none P C set f h
        pick true true h e = boolean_told ∙ binding_boolean P C set f h (sort ∙ e)
        pick true false h e =
            relation-told (scoped (x.family ∷ []) (case_heading C).scope C.families)
            ∙ binding_relation P C set f x.family h (sort ∙ e) (ap (λ (y : paper.Fact). y.family) (sym is) ∙ family_of_lem x e)

    pub told-default : default_from (has set f) x t ≡ took_default_by P C set f
    unfolding default_from took_default_by
    told-default =
        ap₂ ◌&&◌ (ap (λ (b : Bool). has set f && b) (sym sort))
        (ap₂ ◌&&◌
        (ap₂ ◌&&◌ (ap not told.unknown ∙ not-not (eqb (length (said_unknown C f)) 0)) (ap not (ap (λ (s : Sight). s.any) told.seen ∙ look_any (observed C f)) ∙ not-not (eqb (length (observed C f)) 0)))
        (ap (λ (bs : List Bool). not (eqb (length bs) 0)) (ap default_of told.election ∙ default-first (elections P f))))

-- ---- by number, from the tables

abbrev pub no_fact : Fact
no_fact = record { boolean = false; family = 0; count = 0; tuple = [] }

abbrev pub told_at : Sights → ℕ → Elected → ℕ → Told
told_at sights said elected f = record { seen = get_or sights.items f nothing; unknown = has said f; election = get_or elected.items f no_election }

abbrev pub code_at : ℕ → Facts → Families → ℕ → Sights → ℕ → Elected → ℕ → Bound
code_at set facts families scope sights said elected f =
    binding_from (has set f) (get_or facts.items f no_fact) (told_at sights said elected f) (map family_of (take families.count families.items)) scope

abbrev pub default_at_lem : ℕ → Facts → Sights → ℕ → Elected → ℕ → Bool
default_at_lem set facts sights said elected f = default_from (has set f) (get_or facts.items f no_fact) (told_at sights said elected f)

module _ (p : CodedPlan) (c : CodedCase) (set n scope said : ℕ) (sights : Sights) (elected : Elected) (long : length p.facts.items ≡ 64) (some : n ≡ min p.facts.count 64)
    (scoped : scope ≡ (case_heading (case_of c)).scope) (tells : (f : ℕ) → f < 64 → TellsFact (plan_of p) (case_of c) f (told_at sights said elected f)) where
  abbrev facts : Facts
  facts = p.facts

  fact_is : (f : ℕ) → f < n → fact_of (get_or p.facts.items f no_fact) ≡ get_fact (plan_of p) f
  unfolding get_fact plan_of
  fact_is f h = sym (made_at fact_of p.facts.items p.facts.count 64 n long some f no_fact _ h)

  fact-number : n ≡ fact_count (plan_of p)
  unfolding plan_of
  fact-number = sym (made-length fact_of p.facts.items p.facts.count 64 n long some)

  same_code : (f : ℕ) → f < n → code_at set p.facts c.families scope sights said elected f ≡ binding_by (plan_of p) (case_of c) set f
  unfolding case_of
  same_code f h =
      ap (binding_from (has set f) (get_or p.facts.items f no_fact) (told_at sights said elected f) (case_of c).families) scoped
      ∙ told_binding (plan_of p) (case_of c) f (told_at sights said elected f) (tells f (omega (arith, h, some))) (get_or p.facts.items f no_fact) (fact_is f h) set

  pub codes-made : (codes : List ℕ) → Filled (code_at set p.facts c.families scope sights said elected) codes n → (f : ℕ) → bound_of (get_or codes f 0) ≡ binding_at (bindings_by (plan_of p) (case_of c) set) f
  unfolding bindings_by
  codes-made codes filled f =
      filled_end (code_at set p.facts c.families scope sights said elected) codes n filled f
      ∙ ap (λ (bs : List Bound). binding_at bs f) (below_ext n (code_at set p.facts c.families scope sights said elected) (binding_by (plan_of p) (case_of c) set) same_code
      ∙ ap (λ (k : ℕ). below k (binding_by (plan_of p) (case_of c) set)) fact-number)

  pub defaults-made : (f : ℕ) → has (built (default_at_lem set p.facts sights said elected) n) f ≡ (ltb f (fact_count (plan_of p)) && took_default_by (plan_of p) (case_of c) set f)
  defaults-made f =
      built_has (default_at_lem set p.facts sights said elected) n f ∙ pick (ltb f n) refl
      ∙ ap (λ (k : ℕ). ltb f k && took_default_by (plan_of p) (case_of c) set f) fact-number
    where
      pick : (b : Bool) → ltb f n ≡ b → (b && default_at_lem set p.facts sights said elected f) ≡ (ltb f n && took_default_by (plan_of p) (case_of c) set f)
      pick true e =
          let h = ltb-true f n e in
          told-default (plan_of p) (case_of c) f (told_at sights said elected f) (tells f (omega (arith, h, some))) (get_or p.facts.items f no_fact) (fact_is f h) set
          ∙ sym (ap (λ (b : Bool). b && took_default_by (plan_of p) (case_of c) set f) e)
      pick false e = sym (ap (λ (b : Bool). b && took_default_by (plan_of p) (case_of c) set f) e)
