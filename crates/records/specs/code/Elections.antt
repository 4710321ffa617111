-- An election beside all earlier ones. Document 01: "7 elections for one fact, unequal in any byte", "7 … the later one".
use Rattle.std.specs.Prelude.{Bool, List, [], ◌++◌, ℕ, zero, suc, get_or}
use Rattle.sets.specs.paper.Sets.{all_of}
use Rattle.records.specs.paper.Plan.{Plan, Election, same_election, election_faults, election_records}

-- the elections of the records before number k, the latest first
unfoldable pub earlier : List (List Election) → ℕ → List Election
earlier ess zero = []
earlier ess (suc k) = get_or ess k [] ++ earlier ess k

-- one record's election agrees with others
unfoldable pub agree : List Election → List Election → Bool
agree es others = all_of (λ e. all_of (same_election e) others) es

abbrev pub agreement : Plan → List ℕ
agreement P = election_faults [] (election_records P)
