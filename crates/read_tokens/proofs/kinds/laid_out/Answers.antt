use Prim.Native.Nat.{ℕ, zero, suc}
use mathlib.Core.Path.{refl}
use mathlib.Core.List.{List, [], ◌∷◌}
use Rattle.read_tokens.specs.Kinds.{kind_at, one_of, ranges}
use Rattle.read_tokens.specs.declared.kinds.ByteKind.{ByteKind}
use Rattle.read_tokens.specs.declared.kinds.ByteKind.TheVariants.{Other, Blank, Letter, Digit, Hash, Open, Close, Slash, Prefix, Suffix, Dot, Quote, Class, Less}
use Rattle.read_tokens.proofs.kinds.Table.{tabled}
use Rattle.read_tokens.proofs.kinds.laid_out.Goals as goal

-- n times the same kind
abbrev run : ℕ → ByteKind → List ByteKind → List ByteKind
run zero k l = l
run (suc n) k l = k ∷ run n k l

kinds : List ByteKind
kinds =
    run 9 Other (run 2 Blank (run 2 Other (Blank ∷ run 18 Other (Blank ∷ Prefix ∷ Quote ∷ Hash ∷ run 2 Other (Prefix ∷ Quote ∷ Open ∷ Close ∷ run 2 Suffix (
    run 2 Other (Dot ∷ Slash ∷ run 10 Digit (run 2 Other (Less ∷ run 2 Other (Suffix ∷ Other ∷ run 26 Letter (Class ∷ run 3 Other (
    Letter ∷ Other ∷ run 26 Letter (run 133 Other [])))))))))))))

pub invariant_of-result : goal.invariant_of-result
unfolding kinds kind_at one_of ranges
invariant_of-result c = record { tabled = tabled kinds refl tt }
