use mathlib.Core.Path.{sym, ap, ◌∙◌}
use lib.ListN.{length}
use Rattle.prepare.specs.declared.Counted.{Counted}
use Rattle.prepare.specs.Reads.{is_refused}
use Rattle.prepare.specs.laws.Loads.{early, loads-refused}
use Rattle.prepare.specs.laws.Reads.{first-six, refused-plain, as_plain}
use Rattle.prepare.proofs.translated.Goals as goal

pub returns-in-Some : goal.returns-in-Some
returns-in-Some c =
    refused-plain c.args.mode c.args.text.now _ c.refusal.result (ap (λ (r : Counted). is_refused r.verdict) c.refusal.ensures)
    (first-six c.args.mode c.args.text.now c.args.out.now c.refusal.result
    (loads-refused c.refusal.ensures (early c.args.mode c.args.text.now c.in-Some.f c.in-Some.ensures)) (ap (λ (r : Counted). is_refused r.verdict) c.refusal.ensures))

pub gather-r-requires : goal.gather-r-requires
gather-r-requires c = (ap length c.renew.ensures, sym c.in_default.ensures)

pub returns-then-is_refused : goal.returns-then-is_refused
returns-then-is_refused c = refused-plain c.args.mode
    c.args.text.now _ c.gather-r.result
    (sym c.is_refused.ensures ∙ c.if-is_refused.true) (first-six c.args.mode
    c.args.text.now _ c.gather-r.result c.gather-r.ensures
    (sym c.is_refused.ensures ∙ c.if-is_refused.true))

pub returns : goal.returns
returns c = as_plain (c.finish.ensures.ready
    c.args.mode
    c.args.text.now _ _ _ _ _ c.gather-r.ensures
    c.alternatives-made.ensures.between)
