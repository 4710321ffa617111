-- An election as a field, by what the code has.
use mathlib.Core.Path.{◌≡◌, refl, ap}
use mathlib.Core.Bool.{Bool, true, false}
use mathlib.Core.List.{[], ◌∷◌}
use Rattle.records.specs.paper.Plan as paper
use Rattle.records.specs.declared.plan.Election.{Election}
use Rattle.records.specs.code.Decoded.{if_given, election_of}
use Rattle.encoding.specs.paper.Encoded.{some, election_bytes}

given-bytes : (b x : Bool) (e : paper.Election) → b ≡ x → election_bytes (if_given b e) ≡ election_bytes (if_given x e)
given-bytes b x e h = ap (λ (t : Bool). election_bytes (if_given t e)) h

module _ (e : Election) where
  abbrev whole : paper.Election
  whole = record { fact = e.fact; actor = e.actor; policy = e.policy; citation = e.citation }

  pub election_put : e.given ≡ true → election_bytes (election_of e) ≡ e.fact ∷ e.actor ∷ e.policy ∷ e.citation ∷ []
  unfolding election_of election_bytes
  election_put h = given-bytes e.given true whole h

  pub election-none : e.given ≡ false → election_bytes (election_of e) ≡ []
  unfolding election_of election_bytes
  election-none h = given-bytes e.given false whole h

  pub election-stands : some (election_bytes (election_of e)) ≡ e.given
  unfolding election_of election_bytes
  election-stands = pick e.given
    where
      pick : (b : Bool) → some (election_bytes (if_given b whole)) ≡ b
      pick true = refl
      pick false = refl
