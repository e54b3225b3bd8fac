-- The right sides in a table that holds a grammar are the grammar's, also where a symbol has none. Assumes nothing.
use Prim.Native.Nat.{ℕ, zero, suc, ◌+◌, ◌<◌}
use Rattle.std.specs.Prelude.{◌≡◌, length}
use Rattle.std.proofs.Math.Path.{refl, sym, ap}
use Rattle.std.proofs.Common.{◌∙◌}
use mathlib.Core.List.{List, [], ◌∷◌}
use Rattle.std.proofs.Math.Option.{Option, none, some}
use native.Mathlib.Omega.{arith}
use Rattle.std.proofs.Math.ListN.{get_or}
use Rattle.read_tokens.specs.Token.{Leaf, Symbol, name}
use Rattle.grammar.specs.Exp.{Exp, size}
use Rattle.grammar.specs.Numbers.{Grammar}
use Rattle.grammar.specs.Parts.{terminal, parts_of, parts_all}
use Rattle.grammar_table.specs.Table.{body_by, body_in, name_in, leaf_in, part_in, roots_in, symbol_word, symbol_count}
use Rattle.grammar_table.specs.Holds.{Holds, present, roots_from}
use Rattle.grammar.specs.Numbers.{terminal_in}
use Rattle.lake_step_one.specs.Proper.{SoundAll}
use Rattle.grammar_table.specs.laws.Places.{up_to-at}
use Rattle.grammar_table.specs.laws.Parts.{parts-long, Seg, seg-left, seg-right}
use Rattle.lake_step_one.proofs.laws.Held.{names-are, rights-long, part-is}
use Rattle.lake_calls.specs.laws.Trees.{leaf-is, tree-of}

module _ (t : List ℕ) (number : Leaf → ℕ) (r x : ℕ) (leaves : (l : Leaf) → number l < x → leaf_in t (number l) ≡ l) where
  right-at : (os : List (Option (Exp ℕ))) (o : ℕ) → SoundAll number r x (present os) → Seg number (part_in t) (terminal 0) o (parts_all number o (present os)) → (s : ℕ) → s < length os
      → body_by t (get_or (roots_from o os) s 0) ≡ get_or os s none
  unfolding parts_all roots_from present
  right-at [] o h g s p = let z : ⊥ = omega arith in absurd z
  right-at (none ∷ os) o h g zero p = refl
  right-at (none ∷ os) o h g (suc s) p = right-at os o h g s (omega arith)
  right-at (some e ∷ os) o h g zero p =
      ap some (tree-of t number r x leaves e o h.0 (seg-left number (part_in t) (terminal 0) o (parts_of number o e) (parts_all number (o + size e) (present os)) g))
  right-at (some e ∷ os) o h g (suc s) p =
      right-at os (o + size e) h.1 (seg-right number (part_in t) (terminal 0) o (size e) (parts_of number o e) (parts_all number (o + size e) (present os)) (parts-long number e o) g) s (omega arith)

module _ (t : List ℕ) (g : Grammar) (h : Holds t g) where
  pub name-is : (r : ℕ) → r < length g.names → name_in t r ≡ get_or g.names r (name [])
  name-is r l = sym (up_to-at (name_in t) (symbol_count t) r (name []) (omega (arith, names-are t g h))) ∙ ap (λ (hs : List Symbol). get_or hs r (name [])) h.names

  pub root-at : (s : ℕ) → s < length g.rights → symbol_word t s 1 ≡ get_or (roots_from 0 g.rights) s 0
  unfolding roots_in
  root-at s l = sym (up_to-at (λ r. symbol_word t r 1) (symbol_count t) s 0 (omega (arith, rights-long t g h))) ∙ ap (λ (w : List ℕ). get_or w s 0) h.roots

  module _ (sound : SoundAll (terminal_in g) (length g.names) (length g.terminals) (present g.rights)) where
    pub right_is : (s : ℕ) → s < length g.rights → body_in t s ≡ get_or g.rights s none
    unfolding body_in
    right_is s l = ap (body_by t) (root-at s l) ∙ right-at t (terminal_in g) (length g.names) (length g.terminals) (leaf-is t g h) g.rights 0 sound (part-is t g h) s l
