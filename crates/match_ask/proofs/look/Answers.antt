use mathlib.Core.Path.{sym, ◌∙◌}
use native.Mathlib.Omega.{arith}
use Rattle.match_ask.specs.laws.Asks.{looked-refused, looked-accepted}
use Rattle.match_ask.proofs.look.Goals as goal

pub returns-then-is_refused : goal.returns-then-is_refused
returns-then-is_refused c =
    looked-refused (c.finish-p.ensures.ready c.args.mode c.args.text.now _ _ _ _ _ c.load-r.ensures c.alternatives-made.ensures.between).answer
    (sym c.is_refused.ensures ∙ c.if-is_refused.true)

pub lake_in-alt-requires : goal.lake_in-alt-requires
lake_in-alt-requires c = omega (
  arith,
  c.symbols-n.ensures,
  ((c.finish-p.ensures.ready c.args.mode c.args.text.now _ _ _ _ _ c.load-r.ensures c.alternatives-made.ensures.between).stands
      (sym c.is_refused.ensures ∙ c.if-is_refused.false)).worked.plain.few-symbols,
)

pub returns : goal.returns
returns c =
    looked-accepted (c.finish-p.ensures.ready c.args.mode c.args.text.now _ _ _ _ _ c.load-r.ensures c.alternatives-made.ensures.between)
    (sym c.is_refused.ensures ∙ c.if-is_refused.false) c.symbols-n.result c.args.symbol c.symbols-n.ensures _ c.lake_in-alt.ensures
