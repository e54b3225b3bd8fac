use mathlib.Core.Path.{refl, sym, ◌∙◌}
use native.Mathlib.Omega.{arith}
use Rattle.read_tokens.specs.laws.Bytes.{bytes_of}
use Rattle.gurkenmond.specs.laws.Writes.{as-text}
use Rattle.gurkenmond.specs.laws.Names.{name-refuses, name-past, name-puts}
use Rattle.gurkenmond.proofs.symbol_name.Goals as goal

pub returns-then-is_refused : goal.returns-then-is_refused
returns-then-is_refused c = as-text c.not_written.ensures (name-refuses c.args.mode
    c.args.text.now c.args.symbol
    c.args.out.now c.args.out.now
    c.plainly-c.result c.plainly-c.ensures.answer (sym c.is_refused.ensures ∙ c.if-is_refused.true) refl)

pub returns-then-n-symbol : goal.returns-then-n-symbol
returns-then-n-symbol c = as-text c.not_written-then-n-symbol.ensures (name-past c.args.mode
    c.args.text.now
    c.args.symbol
    c.args.out.now
    c.args.out.now
    (c.plainly-c.ensures.clear
    (sym c.is_refused.ensures ∙ c.if-is_refused.false)) _
    (c.plainly-c.ensures.table
    (sym c.is_refused.ensures ∙ c.if-is_refused.false)) c.symbols-n.result
    c.symbols-n.ensures c.if-n-symbol.true refl)

pub put_name-requires : goal.put_name-requires
put_name-requires c = omega (
  arith,
  c.if-n-symbol.false,
  c.symbols-n.ensures,
  (c.plainly-c.ensures.table
      (sym c.is_refused.ensures ∙ c.if-is_refused.false)).few-symbols,
)

pub returns : goal.returns
returns c = name-puts c.args.mode
    c.args.text.now
    c.args.symbol
    c.args.out.now _
    (c.plainly-c.ensures.clear
    (sym c.is_refused.ensures ∙
    c.if-is_refused.false)) _
    (c.plainly-c.ensures.table
    (sym c.is_refused.ensures ∙
    c.if-is_refused.false)) c.symbols-n.result
    c.symbols-n.ensures
    (bytes_of c.args.text.now
    (λ i h. omega (arith, c.shared_slice_known-1.given i)))
    (omega (arith, c.if-n-symbol.false)) c.put_name.result c.put_name.ensures
