-- A table is accepted just where every row behind the header gives a rule and the limits hold, and then the plan has these rules; else its first row
-- with a fault is named.
use mathlib.Core.Path.{◌≡◌, refl, sym, ap, ◌∙◌, subst}
use mathlib.Core.Bool.{Bool, true, false}
use mathlib.Core.Logic.{◌⊎◌, inl, inr, ⊎_elim}
use mathlib.Core.List.{List, [], ◌∷◌, ◌++◌, append-nil, append_assoc}
use Prim.Native.Nat.{ℕ, zero, suc, ◌+◌, ◌≤◌, ◌<◌}
use native.Mathlib.Omega.{arith}
use lib.ListN.{length, length-append, drop_of_length-le}
use lib.Dec.{eqb, ltb}
use borrow.Author.Tests.{ltb-true, ltb-false, eqb-true, eqb-false}
use Rattle.records.specs.paper.Fields.{Verdict, fine, refused}
use Rattle.records.specs.paper.Plan.{Plan, Edge, Status}
use Rattle.spreadsheet.specs.paper.Rows.{row_of}
use Rattle.spreadsheet.specs.paper.RowRules.{Rule, joins, marks, bad, rule_of, Start, behind, header_of}
use Rattle.spreadsheet.specs.paper.Table.{drafted, rows_from, tabled}
use Rattle.spreadsheet.proofs.DraftLaws.{rows_end, rows-bad, rows-edge, rows-edges, rows-status, rows-statuses, tabled-headed, tabled-not}
use Rattle.drafting.specs.promises.RowByRow.{RowRule, an_edge, a_status, rule_before, Follows, Headed, edges_in, statuses_in, Within, Breaks, FirstFault}
use Rattle.drafting.proofs.RowsMove.{RuleUnder, rule_under, StartUnder, start_under}

-- ---- rules one after the other

edges_append : (qs rs : List RowRule) → edges_in (qs ++ rs) ≡ edges_in qs ++ edges_in rs
unfolding edges_in
edges_append [] rs = refl
edges_append (an_edge e ∷ qs) rs = ap (λ es. e ∷ es) (edges_append qs rs)
edges_append (a_status t ∷ qs) rs = edges_append qs rs

statuses_append : (qs rs : List RowRule) → statuses_in (qs ++ rs) ≡ statuses_in qs ++ statuses_in rs
unfolding statuses_in
statuses_append [] rs = refl
statuses_append (an_edge e ∷ qs) rs = statuses_append qs rs
statuses_append (a_status t ∷ qs) rs = ap (λ ts. t ∷ ts) (statuses_append qs rs)

edges-count : (qs rs : List RowRule) → length (edges_in (qs ++ rs)) ≡ length (edges_in qs) + length (edges_in rs)
edges-count qs rs = ap length (edges_append qs rs) ∙ length-append (edges_in qs) (edges_in rs)

statuses-count : (qs rs : List RowRule) → length (statuses_in (qs ++ rs)) ≡ length (statuses_in qs) + length (statuses_in rs)
statuses-count qs rs = ap length (statuses_append qs rs) ∙ length-append (statuses_in qs) (statuses_in rs)

within_front : (qs rs : List RowRule) → Within (qs ++ rs) → Within qs
within_front qs rs (h, g) = (omega (arith, edges-count qs rs), omega (arith, statuses-count qs rs))

within-edge : (done : List RowRule) (e : Edge) → length (edges_in done) < 64 → Within done → Within (done ++ (an_edge e ∷ []))
unfolding edges_in statuses_in
within-edge done e h (a, b) = (omega (arith, edges-count done (an_edge e ∷ [])), omega (arith, statuses-count done (an_edge e ∷ [])))

within-status : (done : List RowRule) (t : Status) → length (statuses_in done) < 32 → Within done → Within (done ++ (a_status t ∷ []))
unfolding edges_in statuses_in
within-status done t h (a, b) = (omega (arith, edges-count done (a_status t ∷ [])), omega (arith, statuses-count done (a_status t ∷ [])))

within_none : Within []
unfolding edges_in statuses_in
within_none = (omega arith, omega arith)

follows_more : (s rest next : List ℕ) (rs : List RowRule) (r : RowRule) → Follows s rs rest → rule_of (row_of rest) ≡ rule_before r next → Follows s (rs ++ (r ∷ [])) next
follows_more s rest next [] r f e = (next, ap (λ (x : List ℕ). rule_of (row_of x)) f ∙ e, refl)
follows_more s rest next (q ∷ rs) r (x, a, f) e = (x, a, follows_more x rest next rs r f e)

-- a row that is a rule has bytes, and fewer are behind it
rule_less : (s next : List ℕ) (r : RowRule) → rule_of (row_of s) ≡ rule_before r next → length next < length s
rule_less s next (an_edge e) h = subst (RuleUnder (length s)) h (rule_under s)
rule_less s next (a_status t) h = subst (RuleUnder (length s)) h (rule_under s)

-- ---- the rows behind rules that were fine

unfoldable rows_behind : ℕ → List ℕ → List RowRule → Verdict Plan
rows_behind k s done = rows_from k s (edges_in done) (statuses_in done) (length done + 1)

-- what the next row does
data Turn (s : List ℕ) (done : List RowRule) : Type 0 where
  ended : length s ≡ 0 → Turn s done
  broke : 0 < length s → Breaks done s → Turn s done
  went : (r : RowRule) (next : List ℕ) → rule_of (row_of s) ≡ rule_before r next → Within (done ++ (r ∷ [])) → Turn s done

turn : (s : List ℕ) (done : List RowRule) → Within done → Turn s done
turn s done w = pick (eqb (length s) 0) refl (rule_of (row_of s)) refl (ltb (length (edges_in done)) 64) refl (ltb (length (statuses_in done)) 32) refl
  where
    some : eqb (length s) 0 ≡ false → 0 < length s
    some e = omega (arith, eqb-false (length s) 0 e)

    pick : (a : Bool) → eqb (length s) 0 ≡ a → (r : Rule) → rule_of (row_of s) ≡ r → (b : Bool) → ltb (length (edges_in done)) 64 ≡ b
        → (c : Bool) → ltb (length (statuses_in done)) 32 ≡ c → Turn s done
    pick true e r h b l c m = ended (eqb-true (length s) 0 e)
    pick false e bad h b l c m = broke (some e) (inl h)
    pick false e (joins x next) h true l c m = went (an_edge x) next h (within-edge done x (ltb-true (length (edges_in done)) 64 l) w)
    pick false e (joins x next) h false l c m = broke (some e) (inr (inl (x, next, h, omega (arith, ltb-false (length (edges_in done)) 64 l))))
    pick false e (marks t next) h b l true m = went (a_status t) next h (within-status done t (ltb-true (length (statuses_in done)) 32 m) w)
    pick false e (marks t next) h b l false m = broke (some e) (inr (inr (t, next, h, omega (arith, ltb-false (length (statuses_in done)) 32 m))))

module _ (k : ℕ) (s : List ℕ) (done : List RowRule) where
  turn_ends : length s ≡ 0 → rows_behind (suc k) s done ≡ fine (drafted (edges_in done) (statuses_in done))
  unfolding rows_behind
  turn_ends h = sym (rows_end s 0 k (length done + 1) (edges_in done) (statuses_in done) (omega arith))

  turn_breaks : 0 < length s → Breaks done s → rows_behind (suc k) s done ≡ refused 16 (length done + 1)
  unfolding rows_behind
  turn_breaks h (inl b) = sym (rows-bad s 0 k (length done + 1) (edges_in done) (statuses_in done) h (sym b))
  turn_breaks h (inr (inl (e, next, b, full))) = sym (rows-edges s 0 k (length done + 1) (edges_in done) (statuses_in done) h e next (sym b) (omega arith))
  turn_breaks h (inr (inr (t, next, b, full))) = sym (rows-statuses s 0 k (length done + 1) (edges_in done) (statuses_in done) h t next (sym b) (omega arith))

  turn_goes : (r : RowRule) (next : List ℕ) → rule_of (row_of s) ≡ rule_before r next → Within (done ++ (r ∷ [])) → rows_behind (suc k) s done ≡ rows_behind k next (done ++ (r ∷ []))
  unfolding rows_behind edges_in statuses_in
  turn_goes (an_edge e) next h (a, b) =
      let less = rule_less s next (an_edge e) h in
      let count : length (done ++ (an_edge e ∷ [])) + 1 ≡ length done + 1 + 1 = omega (arith, length-append done (an_edge e ∷ [])) in
      rw (edges_append done (an_edge e ∷ []), statuses_append done (an_edge e ∷ []), append-nil (statuses_in done), count)
      (sym (rows-edge s 0 k (length done + 1) (edges_in done) (statuses_in done) (omega arith) e next (sym h) (omega (arith, edges-count done (an_edge e ∷ [])))))
  turn_goes (a_status t) next h (a, b) =
      let less = rule_less s next (a_status t) h in
      let count : length (done ++ (a_status t ∷ [])) + 1 ≡ length done + 1 + 1 = omega (arith, length-append done (a_status t ∷ [])) in
      rw (edges_append done (a_status t ∷ []), statuses_append done (a_status t ∷ []), append-nil (edges_in done), count)
      (sym (rows-status s 0 k (length done + 1) (edges_in done) (statuses_in done) (omega arith) t next (sym h) (omega (arith, statuses-count done (a_status t ∷ [])))))

-- ---- what the rows come to

record Accepted (s : List ℕ) (v : Verdict Plan) : Type 0 where
  rules : List RowRule
  follow : Follows s rules []
  within : Within rules
  answer : v ≡ fine (drafted (edges_in rules) (statuses_in rules))

record Faulty (s : List ℕ) (v : Verdict Plan) : Type 0 where
  rules : List RowRule
  rest : List ℕ
  follow : Follows s rules rest
  some : 0 < length rest
  breaks : Breaks rules rest
  within : Within rules
  answer : v ≡ refused 16 (length rules + 1)

come : (first : List ℕ) (k : ℕ) (s : List ℕ) (done : List RowRule) → length s < k → Follows first done s → Within done
    → Accepted first (rows_behind k s done) ⊎ Faulty first (rows_behind k s done)
come first zero s done l f w = absurd (omega arith)
come first (suc k) s done l f w = pick (turn s done w) (λ next d. come first k next d)
  where
    Come : Verdict Plan → Type 0
    Come v = Accepted first v ⊎ Faulty first v

    pick : Turn s done → ((next : List ℕ) (d : List RowRule) → length next < k → Follows first d next → Within d → Come (rows_behind k next d)) → Come (rows_behind (suc k) s done)
    pick (ended h) go = inl (record {
      rules = done;
      follow = subst (Follows first done) (drop_of_length-le s {i = 0} (omega arith)) f;
      within = w;
      answer = turn_ends k s done h;
    })
    pick (broke h b) go = inr (record {
      rules = done;
      rest = s;
      follow = f;
      some = h;
      breaks = b;
      within = w;
      answer = turn_breaks k s done h b;
    })
    pick (went r next h v) go =
        let less = rule_less s next r h in
        subst Come (sym (turn_goes k s done r next h v)) (go next (done ++ (r ∷ [])) (omega arith) (follows_more first s next done r f h) v)

-- ---- the whole table

header-less : (s first : List ℕ) → header_of (row_of s) ≡ behind first → length first < length s
header-less s first h = subst (StartUnder (length s)) h (start_under s)

tabled-behind : (s first : List ℕ) → header_of (row_of s) ≡ behind first → tabled s ≡ rows_behind (suc (length s)) first []
unfolding rows_behind edges_in statuses_in
tabled-behind s first h = sym (tabled-headed s first (sym h))

data Whole (s : List ℕ) : Type 0 where
  headless : header_of (row_of s) ≡ Start.none → Whole s
  accepted : (first : List ℕ) → header_of (row_of s) ≡ behind first → Accepted first (tabled s) → Whole s
  faulty : (first : List ℕ) → header_of (row_of s) ≡ behind first → Faulty first (tabled s) → Whole s

whole : (s : List ℕ) → Whole s
whole s = pick (header_of (row_of s)) refl
  where
    pick : (x : Start) → header_of (row_of s) ≡ x → Whole s
    pick Start.none h = headless h
    pick (behind first) h =
        let less = header-less s first h in
        ⊎_elim
        (λ (a : Accepted first (rows_behind (suc (length s)) first [])). accepted first h (subst (Accepted first) (sym (tabled-behind s first h)) a))
        (λ (a : Faulty first (rows_behind (suc (length s)) first [])). faulty first h (subst (Faulty first) (sym (tabled-behind s first h)) a))
        (come first (suc (length s)) first [] (omega arith) refl within_none)

-- every row behind the header of an accepted table is a rule, and the plan has just these, edges before statuses, in row order
pub tabled-rows : (s : List ℕ) (P : Plan) → tabled s ≡ fine P
    → (rs : List RowRule) × Headed s rs [] × (P ≡ drafted (edges_in rs) (statuses_in rs)) × (length (edges_in rs) ≤ 64) × (length (statuses_in rs) ≤ 32)
tabled-rows s P e = pick (whole s)
  where
    pick : Whole s → (rs : List RowRule) × Headed s rs [] × (P ≡ drafted (edges_in rs) (statuses_in rs)) × (length (edges_in rs) ≤ 64) × (length (statuses_in rs) ≤ 32)
    pick (headless h) = absurd (let f = tabled-not s (sym h) in let z : ◌≡◌ {A = ℕ} 0 1 = cc in omega arith)
    pick (accepted first h a) = let f = a.answer in (a.rules, (first, h, a.follow), (cc), a.within.0, a.within.1)
    pick (faulty first h a) = absurd (let f = a.answer in let z : ◌≡◌ {A = ℕ} 0 1 = cc in omega arith)

-- a refused table has number 16, and the row that is named is the first with a fault
pub tabled-first : (s : List ℕ) (k n : ℕ) → tabled s ≡ refused k n → (k ≡ 16) × FirstFault s n
tabled-first s k n e = pick (whole s)
  where
    pick : Whole s → (k ≡ 16) × FirstFault s n
    pick (headless h) = let f = tabled-not s (sym h) in ((cc), inl ((cc), h))
    pick (accepted first h a) = absurd (let f = a.answer in let z : ◌≡◌ {A = ℕ} 0 1 = cc in omega arith)
    pick (faulty first h a) = let f = a.answer in ((cc), inr (a.rules, a.rest, (first, h, a.follow), (cc), a.some, a.breaks, a.within))

-- no row past 97 is ever named: behind at most 64 edges and 32 statuses
rules-count : (rs : List RowRule) → length rs ≡ length (edges_in rs) + length (statuses_in rs)
unfolding edges_in statuses_in
rules-count [] = refl
rules-count (an_edge e ∷ rs) = omega (arith, rules-count rs)
rules-count (a_status t ∷ rs) = omega (arith, rules-count rs)

pub row-few : (s : List ℕ) (k n : ℕ) → tabled s ≡ refused k n → n ≤ 97
row-few s k n e = pick (tabled-first s k n e).1
  where
    pick : FirstFault s n → n ≤ 97
    pick (inl (z, h)) = omega arith
    pick (inr (rs, rest, h, m, l, b, w)) = omega (arith, rules-count rs)

-- ---- and the other way

behind_goes : (rs : List RowRule) (k : ℕ) (s rest : List ℕ) (done : List RowRule) → length s ≤ k → Follows s rs rest → Within (done ++ rs)
    → (j : ℕ) × (rows_behind (suc k) s done ≡ rows_behind (suc j) rest (done ++ rs))
behind_goes [] k s rest done l f w = (k, rw (f, append-nil))
behind_goes (r ∷ rs) zero s rest done l (next, h, f) w = absurd (omega (arith, rule_less s next r h))
behind_goes (r ∷ rs) (suc k) s rest done l (next, h, f) w =
    let less = rule_less s next r h in
    let v : Within ((done ++ (r ∷ [])) ++ rs) = subst Within (sym (append_assoc done (r ∷ []) rs)) w in
    let (j, e) = behind_goes rs k next rest (done ++ (r ∷ [])) (omega arith) f v in
    (j, turn_goes (suc k) s done r next h (within_front (done ++ (r ∷ [])) rs v) ∙ e ∙ ap (rows_behind (suc j) rest) (append_assoc done (r ∷ []) rs))

headed_goes : (s rest : List ℕ) (rs : List RowRule) → Headed s rs rest → Within rs → (j : ℕ) × (tabled s ≡ rows_behind (suc j) rest rs)
headed_goes s rest rs (first, h, f) w =
    let less = header-less s first h in
    let (j, e) = behind_goes rs (length s) first rest [] (omega arith) f w in
    (j, tabled-behind s first h ∙ e)

-- a table whose rows behind the header are rules within the limits is accepted, and gives the plan of these rules
pub rows-tabled : (s : List ℕ) (rs : List RowRule) → Headed s rs [] → length (edges_in rs) ≤ 64 → length (statuses_in rs) ≤ 32 → tabled s ≡ fine (drafted (edges_in rs) (statuses_in rs))
rows-tabled s rs h a b =
    let (j, e) = headed_goes s [] rs h (a, b) in
    e ∙ turn_ends j [] rs refl

-- a table with a first fault is refused for that row
pub first-tabled : (s : List ℕ) (n : ℕ) → FirstFault s n → tabled s ≡ refused 16 n
first-tabled s n (inl (z, h)) = rw z (sym (tabled-not s (sym h)))
first-tabled s n (inr (rs, rest, h, m, l, b, w)) =
    let (j, e) = headed_goes s rest rs h w in
    rw m (e ∙ turn_breaks j rest rs l b)
