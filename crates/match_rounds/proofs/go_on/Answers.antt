use native.Mathlib.Omega.{arith}
use mathlib.Core.Path.{refl, sym, ◌∙◌}
use mathlib.Core.Bool.{true≢false}
use Rattle.match_rounds.specs.laws.Noted.{noted-both}
use Rattle.match_rounds.proofs.go_on.Goals as goal

pub lengthen-requires : goal.lengthen-requires
lengthen-requires c = (omega (arith, c.requires), c.begins-goes.ensures c.if-goes.true)

pub returns-then-goes : goal.returns-then-goes
returns-then-goes c = record {
  longer = λ h. (
    c.begins-goes.ensures c.if-goes.true,
    λ d e. noted-both c.args.k c.args.p d
        c.args.mem.now _ _ (c.lengthen.ensures d e) (c.keep_block.ensures
        c.args.k c.args.p d),
  );
  same = λ h. absurd (true≢false (sym c.if-goes.true ∙ h));
}

pub returns-else-goes : goal.returns-else-goes
returns-else-goes c = record { longer = λ h. absurd (true≢false (sym h ∙ c.if-goes.false)); same = λ h. refl }
