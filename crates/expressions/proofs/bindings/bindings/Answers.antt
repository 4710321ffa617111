-- `bindings::bindings`: those that are found with the defaults.
use Rattle.expressions.proofs.bindings.bindings.Goals as goal

pub returns : goal.returns
returns c = c.bind_facts-found.ensures.codes
