-- All rules of a plan in one list, in the order edges, cuts, attachments, bars, statuses: the facts that each uses, and whom it holds.
use Rattle.std.specs.Prelude.{◌≡◌, List, [], ◌∷◌, ◌++◌, map, ℕ, ◌+◌, ◌≤◌, length, get_or, take}
use Rattle.sets.specs.paper.Sets.{one, union, has, only, below, All}
use Rattle.records.specs.paper.Plan.{Plan, Fact, Cut, Attachment, Bar, Status}
use Rattle.expressions.specs.paper.Rules.{rule_sets}
use Rattle.expressions.specs.paper.Influence.{edge_used, touched_with}

-- what a list of nodes' uses says of a node
abbrev pub used_at : List ℕ → ℕ → ℕ
used_at us i = get_or us i 0

-- ---- one rule

abbrev pub cut_used : (ℕ → ℕ) → Cut → ℕ
cut_used at c = at c.condition

abbrev pub held_by_cut : Cut → ℕ
held_by_cut c = c.members

abbrev pub attachment_used : (ℕ → ℕ) → Attachment → ℕ
attachment_used at a = at a.condition

abbrev pub bar_used : (ℕ → ℕ) → Bar → ℕ
bar_used at b = at b.condition

abbrev pub held_by_bar : Bar → ℕ
held_by_bar b = b.members

abbrev pub status_used : (ℕ → ℕ) → Status → ℕ
status_used at t = at t.condition

abbrev pub held_by_status : Status → ℕ
held_by_status t = one t.person

-- ---- the rules of a plan

-- of those that a closing goes by: their sets are `rule_sets`
unfoldable pub joining_uses : (ℕ → ℕ) → Plan → List ℕ
joining_uses at P = map (edge_used at) P.edges ++ (map (cut_used at) P.cuts ++ (map (attachment_used at) P.attachments ++ map (bar_used at) P.bars))

unfoldable pub rule_uses : (ℕ → ℕ) → Plan → List ℕ
rule_uses at P = joining_uses at P ++ map (status_used at) P.statuses

unfoldable pub persons_by_rule : Plan → List ℕ
persons_by_rule P = rule_sets P ++ map held_by_status P.statuses

-- "all persons of rules using it", from the two lists
unfoldable pub users_in : ℕ → List ℕ → List ℕ → ℕ
users_in f [] ps = 0
users_in f (u ∷ us) [] = 0
users_in f (u ∷ us) (p ∷ ps) = union (only (has u f) p) (users_in f us ps)

-- whom the fact x of number f touches, where these facts are the constraints'
unfoldable pub touched_by : List ℕ → List ℕ → ℕ → ℕ → ℕ → Fact → ℕ
touched_by us ps constraints roster f x = touched_with constraints roster f x (users_in f us ps)

-- of each fact; nobody for one that is not among the bound
unfoldable pub touch_by : List ℕ → List ℕ → ℕ → ℕ → ℕ → List Fact → ℕ → ℕ
touch_by us ps constraints roster bound fs f =
    only (has bound f) (touched_by us ps constraints roster f (get_or fs f (record { family = []; tuple = [] })))

unfoldable pub touches_by : List ℕ → List ℕ → ℕ → ℕ → ℕ → List Fact → List ℕ
touches_by us ps constraints roster bound fs = below (length fs) (touch_by us ps constraints roster bound fs)

-- ---- the code's two lists, of which `count` entries are in use

pub record Rules : Type 0 where
  pub count : ℕ
  pub uses : List ℕ
  pub persons : List ℕ

abbrev pub lists : ℕ → List ℕ → List ℕ → Rules
lists n us ps = record { count = n; uses = us; persons = ps }

abbrev pub uses_of : Rules → List ℕ
uses_of r = take r.count r.uses

abbrev pub persons_of : Rules → List ℕ
persons_of r = take r.count r.persons

-- rules put behind those that are there
pub record Added (before after : Rules) (us ps : List ℕ) : Type 0 where
  pub count : after.count ≡ before.count + length us
  pub uses : uses_of after ≡ uses_of before ++ us
  pub persons : persons_of after ≡ persons_of before ++ ps

-- whatever `says` answers of x, g x are the facts that it uses and h x whom it holds
abbrev pub Tells : {A : Type 0} → (A → ℕ × ℕ → Type 0) → (A → ℕ) → (A → ℕ) → A → Type 0
Tells says g h x = (r : ℕ × ℕ) → says x r → (r.0 ≡ g x) × (r.1 ≡ h x)

-- rules put there for these records, each as `says` answers
pub record Ruled {A : Type 0} (says : A → ℕ × ℕ → Type 0) (xs : List A) (before after : Rules) : Type 0 where
  pub added : (g h : A → ℕ) → All (Tells says g h) xs → Added before after (map g xs) (map h xs)

-- the rules that a closing goes by, and all rules of a plan
pub record Joining (P : Plan) (at : ℕ → ℕ) (r : Rules) : Type 0 where
  pub uses : uses_of r ≡ joining_uses at P
  pub persons : persons_of r ≡ rule_sets P
  pub few : r.count ≤ 144
  pub room : (length r.uses ≡ 176) × (length r.persons ≡ 176)

pub record Listed (P : Plan) (at : ℕ → ℕ) (r : Rules) : Type 0 where
  pub uses : uses_of r ≡ rule_uses at P
  pub persons : persons_of r ≡ persons_by_rule P
  pub few : r.count ≤ 176
  pub room : (length r.uses ≡ 176) × (length r.persons ≡ 176)
