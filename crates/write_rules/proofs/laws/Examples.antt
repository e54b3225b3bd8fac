-- Terminals as 01 writes them, computed (01, Writing: "literals in `'`; runs of two or more class bytes as lo-hi, ascending"; "in classes `-` is `\055` and
-- `^` is `\136`"). Assumes nothing.
use Rattle.std.specs.Prelude.{ℕ, ◌≡◌, refl, Bool, true, false, List, [], ◌∷◌, ◌++◌, replicate}
use Rattle.read_tokens.specs.Token.{literal, class}
use Rattle.read_tokens.specs.Bounds.{raw_from}
use Rattle.write_rules.specs.Writing.{byte_text, lit_char, class_char, lit_chars, runs, run_text, runs_text, leaf_text}

-- the marks of a class: those given, the first of them that of byte b
abbrev from : ℕ → List Bool → List Bool
from b marks = replicate b false ++ marks

-- a, b and c are one run: `[a-c]`
one-run : leaf_text (class (from 97 (true ∷ true ∷ true ∷ false ∷ []))) ≡ 91 ∷ 97 ∷ 45 ∷ 99 ∷ 93 ∷ []
unfolding byte_text raw_from class_char runs run_text runs_text leaf_text
one-run = refl

-- a and c are two: `[ac]`
two_runs : leaf_text (class (from 97 (true ∷ false ∷ true ∷ false ∷ []))) ≡ 91 ∷ 97 ∷ 99 ∷ 93 ∷ []
unfolding byte_text raw_from class_char runs run_text runs_text leaf_text
two_runs = refl

-- `-` and `^` by their numbers: `[\055\136]`
by_number : leaf_text (class (from 45 (true ∷ from 48 (true ∷ [])))) ≡ 91 ∷ 92 ∷ 48 ∷ 53 ∷ 53 ∷ 92 ∷ 49 ∷ 51 ∷ 54 ∷ 93 ∷ []
unfolding byte_text raw_from class_char runs run_text runs_text leaf_text
by_number = refl

-- `'` in a literal, and a byte that is no character: `'\'\001'`
quoted : leaf_text (literal (39 ∷ 1 ∷ [])) ≡ 39 ∷ 92 ∷ 39 ∷ 92 ∷ 48 ∷ 48 ∷ 49 ∷ 39 ∷ []
unfolding byte_text raw_from lit_char lit_chars leaf_text
quoted = refl
