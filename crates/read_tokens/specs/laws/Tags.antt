-- Kinds that code compares are told apart by their numbers. Assumes nothing.
use Rattle.std.specs.Prelude.{◌≡◌, refl, true, false}
use Rattle.std.proofs.Math.Option.{Option, none, some}
use denote.Enum.Bare.{sameb, same_true, same_false}
use Rattle.read_tokens.specs.declared.Kind.{Kind}
use Rattle.read_tokens.specs.contracts.Kind.{the_type}
use Rattle.read_tokens.specs.declared.Kind.TheVariants.{Arrow}
use Rattle.read_tokens.specs.Token.{Tok, name, lake, any, literal, class, amp, bang, query, asterisk, cross, symbol, leaf, pre, suf, arrow, slash, opens, closes, bad}
use Rattle.read_tokens.specs.steps.Code.{kind_of, arrow_is}

pub arrow-kind : (o : Option Tok) → sameb the_type (kind_of o) Arrow ≡ arrow_is o
arrow-kind none = refl
arrow-kind (some (symbol (name w))) = refl
arrow-kind (some (symbol (lake w))) = refl
arrow-kind (some (leaf any)) = refl
arrow-kind (some (leaf (literal l))) = refl
arrow-kind (some (leaf (class l))) = refl
arrow-kind (some (pre amp)) = refl
arrow-kind (some (pre bang)) = refl
arrow-kind (some (suf query)) = refl
arrow-kind (some (suf asterisk)) = refl
arrow-kind (some (suf cross)) = refl
arrow-kind (some arrow) = refl
arrow-kind (some slash) = refl
arrow-kind (some opens) = refl
arrow-kind (some closes) = refl
arrow-kind (some bad) = refl

-- what a test of two kinds says
pub kind-yes : (k n : Kind) → sameb the_type k n ≡ true → k ≡ n
kind-yes = same_true the_type tt

pub kind-no : (k n : Kind) → sameb the_type k n ≡ false → k ≡ n → ⊥
kind-no = same_false the_type
