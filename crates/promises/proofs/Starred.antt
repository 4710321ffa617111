-- The starred cases of document 01, "Both sides of each rule", as one table and one theorem: what `answer` gives for these bytes.
use mathlib.Core.Path.{◌≡◌, refl}
use mathlib.Core.List.{List, [], ◌∷◌, ◌++◌, map, flat_map}
use Prim.Native.Nat.{ℕ, ◌*◌}
use lib.ListN.{length}
use Rattle.sets.specs.paper.Sets.{members}
use Rattle.report.specs.paper.Line.{line_length}
use Rattle.report.specs.paper.EventList.{event_length}
use Rattle.report.specs.paper.Operations.{told, answer}
use Rattle.promises.proofs.Computing.{computing}

-- ---- records as bytes

abbrev pub mask : ℕ → List ℕ
mask m = m ∷ 0 ∷ 0 ∷ 0 ∷ 0 ∷ 0 ∷ 0 ∷ 0 ∷ []

-- a plan's heading: relation 1
abbrev pub plain : List ℕ
plain = 1 ∷ 0b1 ∷ 1 ∷ []

-- the same with base-chain citation 9
abbrev pub chain : List ℕ
chain = 1 ∷ 0b11 ∷ 1 ∷ 9 ∷ []

-- node 0 is the literal 1
abbrev pub always : List ℕ
always = 3 ∷ 0b1 ∷ 1 ∷ []

-- edges between two persons under a node, with citation 2
abbrev pub base : ℕ → ℕ → ℕ → List ℕ
base left right node = 4 ∷ 0b1111 ∷ left ∷ right ∷ node ∷ 2 ∷ []

abbrev combination : ℕ → ℕ → List ℕ
combination left right = 4 ∷ 0b101111 ∷ left ∷ right ∷ 0 ∷ 2 ∷ []

-- a cut of citation 3: with a decision on edge 0; that precedes cut 1; with neither
abbrev cut_deciding : ℕ → ℕ → List ℕ
cut_deciding members decision = 5 ∷ 0b10111 ∷ mask members ++ (0 ∷ 3 ∷ 1 ∷ 0 ∷ decision ∷ [])

abbrev cut_preceding : ℕ → List ℕ
cut_preceding members = 5 ∷ 0b100111 ∷ mask members ++ (0 ∷ 3 ∷ 1 ∷ 1 ∷ [])

abbrev cut₀ : ℕ → List ℕ
cut₀ members = 5 ∷ 0b111 ∷ mask members ++ (0 ∷ 3 ∷ [])

-- members attached to a person, citation 3, actor 1
abbrev attached : ℕ → ℕ → List ℕ
attached members anchor = 6 ∷ 0b11111 ∷ mask members ++ (anchor ∷ 0 ∷ 3 ∷ 1 ∷ [])

-- a bar of citation 4, a status of citation 5
abbrev barring : ℕ → List ℕ
barring members = 7 ∷ 0b111 ∷ mask members ++ (0 ∷ 4 ∷ [])

abbrev excluding : ℕ → List ℕ
excluding person = 8 ∷ 0b111 ∷ person ∷ 0 ∷ 5 ∷ []

-- a case's heading: relation 1, scope 1, segment 1, complete, at most 4,096 worlds
abbrev pub roster₀ : ℕ → List ℕ
roster₀ persons = 1 ∷ 0b1111111 ∷ 1 ∷ 1 ∷ 1 ∷ mask persons ++ (0 ∷ 0 ∷ 16 ∷ [])

-- a line as bytes
abbrev pub row : ℕ → ℕ → ℕ → ℕ → ℕ → ℕ → ℕ → List ℕ
row person kind role block facts decisions cited = person ∷ kind ∷ role ∷ mask block ++ (mask facts ++ (decisions ∷ 0 ∷ mask cited))

-- ---- the table

pub record Starred : Type 0 where
  pub plan : List ℕ
  pub case : List ℕ
  pub worlds : ℕ
  pub lines : List (List ℕ)

unfoldable pub table : List Starred
table =
    -- empty And true, empty Or false: edges 0–1 under And (), 1–2 under Or ()
    record {
      plan = plain ++ (3 ∷ 0b100 ∷ 0 ∷ 3 ∷ 0b1000 ∷ 0 ∷ base 0 1 0 ++ base 1 2 1);
      case = roster₀ 0b111;
      worlds = 1;
      lines = row 0 0 1 0b011 0 0 0b100 ∷ row 1 0 1 0b011 0 0 0b100 ∷ row 2 0 1 0b100 0 0 0 ∷ [];
    } ∷
    -- Base 0–1, 1–2: kind 4 for all three
    record {
      plan = plain ++ (always ++ (base 0 1 0 ++ base 1 2 0));
      case = roster₀ 0b111;
      worlds = 1;
      lines = row 0 4 0 0 0 0 0 ∷ row 1 4 0 0 0 0 0 ∷ row 2 4 0 0 0 0 0 ∷ [];
    } ∷
    -- with 0–2 added: block 0,1,2
    record {
      plan = plain ++ (always ++ (base 0 1 0 ++ (base 1 2 0 ++ base 0 2 0)));
      case = roster₀ 0b111;
      worlds = 1;
      lines = row 0 0 1 0b111 0 0 0b100 ∷ row 1 0 1 0b111 0 0 0b100 ∷ row 2 0 1 0b111 0 0 0b100 ∷ [];
    } ∷
    -- or the chain citation: block 0,1,2
    record {
      plan = chain ++ (always ++ (base 0 1 0 ++ base 1 2 0));
      case = roster₀ 0b111;
      worlds = 1;
      lines = row 0 0 1 0b111 0 0 0b100 ∷ row 1 0 1 0b111 0 0 0b100 ∷ row 2 0 1 0b111 0 0 0b100 ∷ [];
    } ∷
    -- two true observations, evidence 3 and 4: Conflict (the fact is open), one world
    record {
      plan = plain ++ (2 ∷ 0 ∷ 3 ∷ 0b10 ∷ 0 ∷ base 0 1 0 ++ base 1 2 0);
      case = roster₀ 0b111 ++ (3 ∷ 0b101 ∷ 0 ∷ 2 ∷ 1 ∷ 3 ∷ 1 ∷ 4 ∷ []);
      worlds = 1;
      lines = row 0 4 0 0 0b1 0 0 ∷ row 1 4 0 0 0b1 0 0 ∷ row 2 4 0 0 0b1 0 0 ∷ [];
    } ∷
    -- cut {0}, Combination 0–1: overrides gives 0 and 1 apart
    record {
      plan = plain ++ (always ++ (combination 0 1 ++ cut_deciding 0b01 2));
      case = roster₀ 0b11;
      worlds = 1;
      lines = row 0 0 1 0b01 0 0 0b1000 ∷ row 1 0 1 0b10 0 0 0b1000 ∷ [];
    } ∷
    -- blocked, together
    record {
      plan = plain ++ (always ++ (combination 0 1 ++ cut_deciding 0b01 1));
      case = roster₀ 0b11;
      worlds = 1;
      lines = row 0 0 1 0b11 0 0 0b100 ∷ row 1 0 1 0b11 0 0 0b100 ∷ [];
    } ∷
    -- unresolved, kind 1 for both
    record {
      plan = plain ++ (always ++ (combination 0 1 ++ cut_deciding 0b01 3));
      case = roster₀ 0b11;
      worlds = 2;
      lines = row 0 1 0 0 0 1 0 ∷ row 1 1 0 0 0 1 0 ∷ [];
    } ∷
    -- cuts {0,1}, {1,2}: kind 3
    record {
      plan = plain ++ (always ++ (cut₀ 0b011 ++ cut₀ 0b110));
      case = roster₀ 0b111;
      worlds = 1;
      lines = row 0 3 0 0 0 0 0 ∷ row 1 3 0 0 0 0 0 ∷ row 2 3 0 0 0 0 0 ∷ [];
    } ∷
    -- first precedes: 0,1 and 2
    record {
      plan = plain ++ (always ++ (cut_preceding 0b011 ++ cut₀ 0b110));
      case = roster₀ 0b111;
      worlds = 1;
      lines = row 0 0 1 0b011 0 0 0b1000 ∷ row 1 0 1 0b011 0 0 0b1000 ∷ row 2 0 1 0b100 0 0 0 ∷ [];
    } ∷
    -- bar {0}, 0 attached to 1: role 1
    record {
      plan = plain ++ (always ++ (attached 0b01 1 ++ barring 0b01));
      case = roster₀ 0b11;
      worlds = 1;
      lines = row 0 0 1 0b11 0 0 0b1000 ∷ row 1 0 1 0b11 0 0 0b1000 ∷ [];
    } ∷
    -- bar {0,1}: both role 3
    record {
      plan = plain ++ (always ++ (attached 0b01 1 ++ barring 0b11));
      case = roster₀ 0b11;
      worlds = 1;
      lines = row 0 0 3 0b11 0 0 0b11000 ∷ row 1 0 3 0b11 0 0 0b11000 ∷ [];
    } ∷
    -- bar and status on 0: role 2
    record {
      plan = plain ++ (always ++ (barring 0b1 ++ excluding 0));
      case = roster₀ 0b1;
      worlds = 1;
      lines = row 0 0 2 0b1 0 0 0b100000 ∷ [];
    } ∷ []

-- the bytes of the lines in a buffer that just holds them, beside one for ten events, and the count of worlds
abbrev pub found : Starred → List ℕ × ℕ
found c = let o = answer c.plan c.case (line_length * length c.lines) (event_length * 10) in (o.lines, (told o.answer).worlds)

abbrev pub expected : Starred → List ℕ × ℕ
expected c = (flat_map (λ l. l) c.lines, c.worlds)

pub starred : map found table ≡ map expected table
unfolding table computing
starred = refl
