use mathlib.Core.Path.{refl, sym, ◌∙◌}
use native.Mathlib.Omega.{arith}
use Rattle.read_tokens.specs.laws.Bytes.{bytes_of}
use Rattle.gurkenmond.specs.laws.Writes.{as-text}
use Rattle.gurkenmond.specs.laws.Trees.{json-refuses, json-puts}
use Rattle.gurkenmond.proofs.write_json.Goals as goal

pub returns-then-is_refused : goal.returns-then-is_refused
returns-then-is_refused c = as-text c.not_written.ensures (json-refuses c.args.mode
    c.args.text.now
    c.args.input.now
    c.args.nodes.now
    c.args.out.now
    c.args.out.now
    c.plainly-c.result c.plainly-c.ensures.answer (sym c.is_refused.ensures ∙ c.if-is_refused.true) refl)

pub returns : goal.returns
returns c = json-puts c.args.mode
    c.args.text.now
    c.args.input.now
    (c.plainly-c.ensures.clear (sym c.is_refused.ensures ∙
    c.if-is_refused.false))
    (bytes_of c.args.text.now (λ i h. omega (
      arith,
      c.shared_slice_known-1.given i,
    ))) _
    (c.plainly-c.ensures.table (sym c.is_refused.ensures ∙
    c.if-is_refused.false))
    c.args.nodes.now
    c.args.out.now _
    c.write_list.result c.write_list.ensures
