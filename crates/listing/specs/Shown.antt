-- What the lister's function gives back.
use Rattle.std.specs.Prelude.{◌≡◌, List, ℕ, ◌≤◌, length, take}
use Rattle.page.specs.Page.{Page, begun}
use Rattle.report.specs.paper.Operations as operations
use Rattle.listing.specs.Listing.{longest, listing}

-- before and after: the lines and the events are those of the answer, the text stands at the start of `out`
pub record Listed (plan case lines₀ events₀ out₀ lines₁ events₁ out₁ : List ℕ) (r : ℕ) : Type 0 where
  pub lines : lines₁ ≡ (operations.answer plan case (length lines₀) (length events₀)).lines
  pub events : events₁ ≡ (operations.answer plan case (length lines₀) (length events₀)).events
  -- what does not fit is left out, what the text does not reach stays
  pub text : ◌≡◌ {A = Page} (record { count = r; out = out₁ }) (begun (listing plan case (length lines₀) (length events₀)) out₀)
  -- the count lies within the buffer
  pub inside : (r ≤ length out₁) × (r ≡ length (take r out₁))
  -- and nothing is left out of a buffer of that length
  pub short : length (listing plan case (length lines₀) (length events₀)) ≤ longest
