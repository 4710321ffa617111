-- Events of kind 9 as they are kept while worlds go by: rising, without repeats, at the start of the lent buffer.
use Rattle.std.specs.Prelude.{◌≡◌, true, false, ℕ, ◌+◌, ◌*◌, ◌-◌, ◌<◌, ◌≤◌, length, replicate, take, drop, Result, MatchResult}
use mathlib.Core.List.{List, [], ◌∷◌, ◌++◌, map, flat_map}
use Rattle.sets.specs.paper.Sets.{members, All}
use Rattle.worlds.specs.paper.Events.{event}
use Rattle.worlds.specs.code.Over.{entry}
use Rattle.report.specs.paper.EventList.{event_length, insert, rising}
use Rattle.report.specs.code.Happened.{Rises}
use Rattle.report.specs.code.EventBytes.{chunks}
use Rattle.report.specs.declared.nine.Listing.{Listing}

-- where an event stands among the first n, which rise, or else where it belongs
pub record PlaceOf (n : ℕ) (e s : List ℕ) (r : Result ℕ ℕ) : Type 0 where
  pub within : MatchResult r (λ i. i < n) (λ i. i ≤ n)
  pub at : Rises (chunks n s) → MatchResult r (λ i. insert e (chunks n s) ≡ chunks n s) (λ i. insert e (chunks n s) ≡ take i (chunks n s) ++ (e ∷ drop i (chunks n s)))

-- an event put among rising ones; what lies behind them is not touched
pub record Inserted (n : ℕ) (e before after : List ℕ) (r : ℕ) : Type 0 where
  pub events : Rises (chunks n before) → chunks r after ≡ insert e (chunks n before)
  pub behind : drop (r * event_length) after ≡ drop (r * event_length) before
  pub few : r ≤ n + 1
  pub long : length after ≡ length before

-- the buffer holds these events in order, and zeros; or they do not fit
pub record Nines (es : List (List ℕ)) (l : Listing) (events : List ℕ) : Type 0 where
  pub each : All (λ e. length e ≡ event_length) es
  pub fitting : l.full ≡ false → (l.count ≡ length (rising es)) × (event_length * length (rising es) ≤ length events)
      × (events ≡ flat_map (λ e. e) (rising es) ++ replicate (length events - event_length * length (rising es)) 0)
  pub over : l.full ≡ true → length events < event_length * length (rising es)

-- one after another put in front
unfoldable pub prepended : List (List ℕ) → List (List ℕ) → List (List ℕ)
prepended [] es = es
prepended (f ∷ fs) es = prepended fs (f ∷ es)

-- one component more, several more
pub record PartListed (part : ℕ) (before : Listing) (events₀ events₁ : List ℕ) (after : Listing) : Type 0 where
  pub at : (es : List (List ℕ)) → Nines es before events₀ → Nines (event 9 0 0 0 part ∷ es) after events₁
  pub fits : after.count * event_length ≤ length events₁
  pub long : length events₁ ≡ length events₀

pub record PartsListed (parts : List ℕ) (heads : ℕ) (before : Listing) (events₀ events₁ : List ℕ) (after : Listing) : Type 0 where
  pub at : (es : List (List ℕ)) → Nines es before events₀ → Nines (prepended (map (λ h. event 9 0 0 0 (entry parts h)) (members heads)) es) after events₁
  pub fits : after.count * event_length ≤ length events₁
  pub long : length events₁ ≡ length events₀
