-- One world. Document 01, "World", steps 2 to 8. Rules go by number: "merged" cuts are cuts with equal members.
use Rattle.std.specs.Prelude.{Bool, ◌&&◌, not, cond, List, ◌++◌, ℕ, get_or, eqb, ltb}
use Rattle.sets.specs.paper.Sets.{has, one, union, minus, only, meets, subset, size, set_of, members, close_of, below, any_below, union_below, fold_below, all_of, union_of}
use Rattle.records.specs.paper.Plan.{Plan, one_end}
use Rattle.expressions.specs.paper.Rules.{edge_count, cut_count, attachment_count, bar_count, status_count, edge, cut, attachment, bar, status, pair, rule_sets, chained}
use Rattle.expressions.specs.paper.Nodes.{on}
use Rattle.expressions.specs.paper.Variables.{Influence}
use Rattle.worlds.specs.paper.Active.{Active, blocks_edge}

-- some rule of the kind meets m and passes the test
unfoldable pub about : ℕ → (ℕ → ℕ) → ℕ → (ℕ → Bool) → Bool
about n persons m test = any_below n (λ i. meets m (persons i) && test i)

-- ---- 2: "a Base component of more than two persons that is no clique marks discretion"

unfoldable pub base_set : Plan → Active → ℕ → ℕ
base_set P a i = only (on a.frozen i && not (edge P i).combination) (pair P i)

unfoldable pub base_sets : Plan → Active → List ℕ
base_sets P a = below (edge_count P) (base_set P a)

-- everybody of m is joined to everybody of m by one of the sets
unfoldable pub clique : List ℕ → ℕ → Bool
clique ss m = all_of (λ q. subset m (union (one q) (union_of (λ s. only (has s q) s) ss))) (members m)

unfoldable pub loose : Plan → List ℕ → ℕ → Bool
loose P ss m = not (chained P) && (ltb 2 (size m) && not (clique ss m))

-- the component of each roster person, where it is at discretion
unfoldable pub loose_component : Plan → ℕ → List ℕ → ℕ → ℕ
loose_component P roster ss p = only (has roster p && loose P ss (close_of ss (one p))) (close_of ss (one p))

unfoldable pub loose_components : Plan → ℕ → Active → List ℕ
loose_components P roster a = below 64 (loose_component P roster (base_sets P a))

-- "Marks spread over influence sets that meet them until nothing grows, then over the closure above"
unfoldable pub spread : Plan → Influence → ℕ → ℕ
spread P I m = close_of (rule_sets P) (close_of (I.facts ++ I.decisions) m)

-- ---- 3: "the one preceded (through chains, inactive cuts too) drops unless each precedes the other"

unfoldable pub chain_step : Plan → ℕ → ℕ
chain_step P m = union m (union_below (cut_count P) (λ d. only (has m d) (set_of (cut P d).precedes)))

-- the cuts that a cut precedes
unfoldable pub preceded : Plan → ℕ → ℕ
preceded P c = fold_below (cut_count P) (λ k. chain_step P) (set_of (cut P c).precedes)

abbrev pub precedes : Plan → ℕ → ℕ → Bool
precedes P c d = has (preceded P c) d

-- "Drops are decided together"
unfoldable pub kept_cut : Plan → Active → ℕ → Bool
kept_cut P a c =
    on a.cuts c
    && not (about (cut_count P) (λ d. (cut P d).members) (cut P c).members (λ d. on a.cuts d && (precedes P d c && not (precedes P c d))))

unfoldable pub kept_cuts : Plan → Active → List Bool
kept_cuts P a = below (cut_count P) (kept_cut P a)

-- ---- 4: "Cuts still overlapping both drop; their union marks overlap"

abbrev pub same_members : Plan → ℕ → ℕ → Bool
same_members P c d = eqb (cut P c).members (cut P d).members

unfoldable pub overlapping_cut : Plan → List Bool → ℕ → Bool
overlapping_cut P kept c =
    on kept c && about (cut_count P) (λ d. (cut P d).members) (cut P c).members (λ d. on kept d && not (same_members P c d))

unfoldable pub overlapping_cuts : Plan → List Bool → List Bool
overlapping_cuts P kept = below (cut_count P) (overlapping_cut P kept)

-- ---- 5: "A frozen Combination edge with one end in a cut blocks it, if any of its merged cuts says blocked, or unresolved and false"

-- the cut says that the edge, which crosses it, blocks it
unfoldable pub blocked_by : Plan → Active → ℕ → ℕ → Bool
blocked_by P a c e =
    (on a.frozen e && (edge P e).combination)
    && (one_end (cut P c) (edge P e) && blocks_edge P a c e)

-- a cut that is left after step 4
abbrev pub standing : List Bool → List Bool → ℕ → Bool
standing kept overlapping c = on kept c && not (on overlapping c)

unfoldable pub blocked_cut : Plan → Active → List Bool → ℕ → Bool
blocked_cut P a kept c =
    about (cut_count P) (λ d. (cut P d).members) (cut P c).members (λ d. on kept d && (same_members P c d
    && about (edge_count P) (pair P) (cut P d).members (blocked_by P a d)))

unfoldable pub applied_cuts : Plan → Active → List Bool → List Bool → List Bool
applied_cuts P a kept overlapping = below (cut_count P) (λ c. standing kept overlapping c && not (blocked_cut P a kept c))

-- ---- the marks

pub record Marks : Type 0 where
  pub discretion : ℕ
  pub overlap : ℕ

unfoldable pub discretion_seed : Plan → ℕ → Active → ℕ
discretion_seed P roster a = union_of (λ m. m) (loose_components P roster a)

unfoldable pub overlap_seed : Plan → Active → ℕ
overlap_seed P a = union_below (cut_count P) (λ c. only (on (overlapping_cuts P (kept_cuts P a)) c) (cut P c).members)

unfoldable pub marks_of : Plan → ℕ → Influence → Active → Marks
marks_of P roster I a = record { discretion = spread P I (discretion_seed P roster a); overlap = spread P I (overlap_seed P a) }

unfoldable pub marked : Marks → ℕ
marked m = union m.discretion m.overlap

-- ---- 6: "Unmarked members of applied cuts are blocks; the rest split into components by frozen edges"

unfoldable pub cut_members : Plan → List Bool → ℕ
cut_members P applied = union_below (cut_count P) (λ c. only (on applied c) (cut P c).members)

-- the members of the applied cut that holds p
unfoldable pub applied_to : Plan → List Bool → ℕ → ℕ
applied_to P applied p = union_below (cut_count P) (λ c. only (on applied c && has (cut P c).members p) (cut P c).members)

unfoldable pub rest_sets : Plan → Active → ℕ → List ℕ
rest_sets P a rest = below (edge_count P) (λ i. only (on a.frozen i && subset (pair P i) rest) (pair P i))

unfoldable pub first_block : Plan → ℕ → ℕ → List Bool → List ℕ → ℕ → ℕ
first_block P roster marks applied ss p =
    only (has roster p && not (has marks p)) (cond (has (cut_members P applied) p) (minus (applied_to P applied p) marks) (close_of ss (one p)))

-- ---- 7: "Active attachments in order: skipped if the anchor is in no block; else unmarked members move to it"

-- "sixty-four block masks": nobody's block is 0
pub record State : Type 0 where
  pub blocks : List ℕ
  pub attached : ℕ
  -- the attachments that were not skipped
  pub moved : ℕ

abbrev pub block_of : State → ℕ → ℕ
block_of s p = get_or s.blocks p 0

unfoldable pub first_state : Plan → ℕ → ℕ → Active → List Bool → State
first_state P roster marks a applied = record {
  blocks = below 64 (first_block P roster marks applied (rest_sets P a (minus (minus roster marks) (cut_members P applied))));
  attached = 0;
  moved = 0;
}

-- the members leave their blocks, and come into the anchor's
unfoldable pub move : ℕ → ℕ → ℕ → State → State
move i target movers s = record {
  blocks = below 64 (λ p. cond (has target p) target (minus (block_of s p) movers));
  attached = union s.attached movers;
  moved = union s.moved (one i);
}

unfoldable pub attach : Plan → ℕ → Active → ℕ → State → State
attach P marks a i s =
    cond (on a.attachments i && not (eqb (block_of s (attachment P i).anchor) 0))
    (move i (union (block_of s (attachment P i).anchor) (minus (attachment P i).members marks)) (minus (attachment P i).members marks) s) s

unfoldable pub last_state : Plan → ℕ → ℕ → Active → List Bool → State
last_state P roster marks a applied = fold_below (attachment_count P) (attach P marks a) (first_state P roster marks a applied)

-- ---- 8: "An active bar not wholly within the attached bars its members; then an active status excludes"

abbrev pub bar_holds : Plan → Active → ℕ → ℕ → Bool
bar_holds P a attached i = on a.bars i && not (subset (bar P i).members attached)

unfoldable pub barred_by : Plan → Active → ℕ → ℕ
barred_by P a attached = union_below (bar_count P) (λ i. only (bar_holds P a attached i) (bar P i).members)

unfoldable pub excluded_by : Plan → Active → ℕ
excluded_by P a = union_below (status_count P) (λ i. only (on a.statuses i) (one (status P i).person))

-- ---- the world whole

pub record World : Type 0 where
  pub active : Active
  pub kept : List Bool
  pub overlapping : List Bool
  pub applied : List Bool
  pub marks : Marks
  pub state : State
  pub barred : ℕ
  pub excluded : ℕ

unfoldable pub after_marks : Plan → ℕ → Active → Marks → World
after_marks P roster a m =
    let kept = kept_cuts P a in
    let overlapping = overlapping_cuts P kept in
    let applied = applied_cuts P a kept overlapping in
    let s = last_state P roster (marked m) a applied in
    record {
      active = a;
      kept = kept;
      overlapping = overlapping;
      applied = applied;
      marks = m;
      state = s;
      barred = barred_by P a s.attached;
      excluded = excluded_by P a;
    }

unfoldable pub world_of : Plan → ℕ → Influence → Active → World
world_of P roster I a = after_marks P roster a (marks_of P roster I a)
