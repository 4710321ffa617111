-- `put_heading`: with the base-chain citation, or without.
use mathlib.Core.Path.{ap, ◌∙◌}
use Rattle.page.specs.Page.{puts}
use Rattle.encoding.proofs.KindBytes.{chained-bytes, heading-bytes}
use Rattle.encoding.proofs.heading.put_heading.Goals as goal

pub returns-then-chained : goal.returns-then-chained
returns-then-chained c =
    let i = c in
    let s = i in
    c.put_all.ensures ∙ ap (puts (record { count = s.args.at; out = s.args.out.now })) (chained-bytes s.args.relation s.args.chain s.args.chained i.if-chained.true)

pub returns : goal.returns
returns c =
    let i = c in
    let s = i in
    c.put_all-2.ensures ∙ ap (puts (record { count = s.args.at; out = s.args.out.now })) (heading-bytes s.args.relation s.args.chain s.args.chained i.if-chained.false)
