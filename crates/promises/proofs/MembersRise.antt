-- The list of a set's persons rises strictly.
use mathlib.Core.List.{List, ◌∷◌}
use Prim.Native.Nat.{ℕ, zero, suc, ◌/◌, ◌%◌, ◌≤◌, ◌<◌}
use native.Mathlib.Omega.{arith}
use native.Mathlib.Nat.{not-suc-le-zero, le_of_suc-le-suc}
use lib.ListN.{length, get_or}
use Rattle.sets.specs.paper.Sets.{when, members, members_from}

-- the list goes on above p
abbrev From : ℕ → ℕ → List ℕ → Type 0
From d p xs = (i : ℕ) → i < length xs → p ≤ get_or xs i d

from_when : (d n p : ℕ) (rest : List ℕ) → From d (suc p) rest → From d p (when n p rest)
from_when d zero p rest h i l = let k = h i l in omega arith
from_when d (suc n) p rest h zero l = omega arith
from_when d (suc n) p rest h (suc i) l = let k = h i (le_of_suc-le-suc l) in omega arith

from_low : (d k p m : ℕ) → From d p (members_from k p m)
unfolding members_from
from_low d zero p m i l = absurd (not-suc-le-zero l)
from_low d (suc k) p m i l = from_when d (m % 2) p (members_from k (suc p) (m / 2)) (from_low d k (suc p) (m / 2)) i l

abbrev Rising : ℕ → List ℕ → Type 0
Rising d xs = (i j : ℕ) → i < j → j < length xs → get_or xs i d < get_or xs j d

rise-when : (d n p : ℕ) (rest : List ℕ) → From d (suc p) rest → Rising d rest → Rising d (when n p rest)
rise-when d zero p rest h r = r
rise-when d (suc n) p rest h r = go
  where
    go : Rising d (p ∷ rest)
    go i zero l m = absurd (not-suc-le-zero l)
    go zero (suc j) l m = h j (le_of_suc-le-suc m)
    go (suc i) (suc j) l m = r i j (le_of_suc-le-suc l) (le_of_suc-le-suc m)

from_rise : (d k p m : ℕ) → Rising d (members_from k p m)
unfolding members_from
from_rise d zero p m i j l h = absurd (not-suc-le-zero h)
from_rise d (suc k) p m i j l h = rise-when d (m % 2) p (members_from k (suc p) (m / 2)) (from_low d k (suc p) (m / 2)) (from_rise d k (suc p) (m / 2)) i j l h

pub members-rise : (m d i j : ℕ) → i < j → j < length (members m) → get_or (members m) i d < get_or (members m) j d
unfolding members
members-rise m d = from_rise d 64 0 m
