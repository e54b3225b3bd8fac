use mathlib.Core.Path.{refl, sym, ◌∙◌}
use native.Mathlib.Omega.{arith}
use Rattle.read_tokens.specs.laws.Bytes.{bytes_of}
use Rattle.gurkenmond.specs.laws.Writes.{as-text, plain-refuses, plain-puts}
use Rattle.gurkenmond.proofs.write_plain.Goals as goal

pub returns-then-is_refused : goal.returns-then-is_refused
returns-then-is_refused c = as-text c.not_written.ensures (plain-refuses c.args.mode
    c.args.text.now c.args.out.now
    c.args.out.now c.plain_only-c.result
    c.plain_only-c.ensures.answer (sym c.is_refused.ensures ∙ c.if-is_refused.true) refl)

pub returns : goal.returns
returns c = plain-puts c.args.mode
    c.args.text.now
    c.args.out.now _
    (bytes_of c.args.text.now
    (λ i h. omega (arith, c.shared_slice_known-1.given i)))
    (c.plain_only-c.ensures.clear
    (sym c.is_refused.ensures ∙ c.if-is_refused.false)) _ c.put_text.result
    (c.plain_only-c.ensures.plain
    (sym c.is_refused.ensures ∙ c.if-is_refused.false)) c.put_text.ensures
