use mathlib.Core.Path.{refl, sym, ◌∙◌}
use native.Mathlib.Omega.{arith}
use Rattle.read_tokens.specs.laws.Bytes.{bytes_of}
use Rattle.gurkenmond.specs.laws.Trees.{as-parsed, read-refuses, json-reads}
use Rattle.gurkenmond.proofs.read_json.Goals as goal

pub returns-then-is_refused : goal.returns-then-is_refused
returns-then-is_refused c = as-parsed c.not_read.ensures (read-refuses c.args.mode
    c.args.text.now
    c.args.input.now
    c.args.json.now
    c.args.nodes.now
    c.args.nodes.now
    c.plainly-c.result c.plainly-c.ensures.answer (sym c.is_refused.ensures ∙ c.if-is_refused.true) refl)

pub read_list-requires : goal.read_list-requires
read_list-requires c = omega (
  arith,
  (c.plainly-c.ensures.table (sym c.is_refused.ensures ∙
      c.if-is_refused.false)).few-symbols,
)

pub returns : goal.returns
returns c = json-reads c.args.mode
    c.args.text.now
    c.args.input.now
    (c.plainly-c.ensures.clear (sym c.is_refused.ensures ∙
    c.if-is_refused.false))
    (bytes_of c.args.text.now (λ i h. omega (
      arith,
      c.shared_slice_known-1.given i,
    ))) _
    (c.plainly-c.ensures.table (sym c.is_refused.ensures ∙
    c.if-is_refused.false))
    c.args.json.now
    c.args.nodes.now _
    c.read_list.result c.read_list.ensures
