-- A grammar's own text: the text of the table that holds it is the text of its rules (01, Writing). Assumes nothing.
use Prim.Native.Nat.{ℕ, zero, suc, ◌+◌, ◌<◌}
use Rattle.std.specs.Prelude.{◌≡◌, Bool, true, cond, get_or}
use Rattle.std.proofs.Math.Path.{refl, ap, ap₂}
use Rattle.std.proofs.Common.{sym, ◌∙◌}
use Rattle.std.proofs.Math.Bool.{false}
use mathlib.Core.List.{List, [], ◌∷◌, ◌++◌, map}
use Rattle.std.proofs.Math.Option.{none}
use native.Mathlib.Omega.{arith}
use Rattle.std.proofs.Math.ListN.{length, replicate, length-append, get_or-append}
use Rattle.read_tokens.specs.declared.Mode.{Mode}
use Rattle.read_tokens.specs.Token.{Symbol, Leaf, name}
use Rattle.read_tokens.specs.laws.Bytes.{Bytes}
use Rattle.grammar.specs.Exp.{Exp, Rule, sym as uses, ter, seq, alt, opt, star, plus, ahead, never, rename}
use Rattle.grammar.specs.Same.{same_symbol, index_of}
use Rattle.grammar.specs.Syntax.{Rules}
use Rattle.grammar.specs.Trees.{trees}
use Rattle.grammar.specs.Numbers.{Grammar, left_sides, loose_lakes, symbols_of, right_by, numbered}
use Rattle.grammar_table.specs.Holds.{Holds, present}
use Rattle.grammar.specs.Numbers.{terminal_in}
use Rattle.lake_step_one.specs.Proper.{Sound as SoundExp, SoundAll}
use Rattle.read_grammar.specs.steps.Promises.{Sound}
use Rattle.read_grammar.specs.laws.Entries.{symbol-sound}
use Rattle.prepare.specs.laws.Rights.{sound-rights}
use Rattle.write_rules.specs.Writing.{text}
use Rattle.write_leaves.specs.steps.Printed.{low_leaf, called, toned}
use Rattle.write_text.specs.steps.Texts.{rules_in, ruled, text_of}
use Rattle.write_text.specs.laws.Rights.{rights-are}
use Rattle.write_text.specs.laws.Called.{called_is}
use Rattle.write_text.specs.laws.Fit.{fit-name, name-bytes, low-leaves}

-- what stands at the number of a symbol
symbol-at : (h : Symbol) (l : List Symbol) → index_of same_symbol h l < length l → get_or l (index_of same_symbol h l) (name []) ≡ h
unfolding index_of
symbol-at h [] p = let z : ⊥ = omega arith in absurd z
symbol-at h (y ∷ l) p = go (same_symbol h y) refl (λ k. symbol-at h l k) p
  where
    go : (b : Bool) → same_symbol h y ≡ b → (index_of same_symbol h l < length l → get_or l (index_of same_symbol h l) (name []) ≡ h) → cond b 0 (suc (index_of same_symbol h l)) < length (y ∷ l) → get_or (y ∷ l) (cond b 0 (suc (index_of same_symbol h l))) (name []) ≡ h
    go true e f k = sym (symbol-sound h y e)
    go false e f k = f (omega arith)

-- from names to numbers and back
module _ (names : List Symbol) (number : Leaf → ℕ) (x : ℕ) (f : ℕ → Symbol) (same : (r : ℕ) → r < length names → f r ≡ get_or names r (name [])) (leaves : (y : Leaf) → number y < x → low_leaf y ≡ y) where
  back : (e : Exp Symbol) → SoundExp number (length names) x (rename (λ h. index_of same_symbol h names) e) → toned f (rename (λ h. index_of same_symbol h names) e) ≡ e
  unfolding toned rename
  back (uses h) s = ap uses (same (index_of same_symbol h names) s ∙ symbol-at h names s)
  back (ter y) s = ap ter (leaves y s.0)
  back (seq a b) s = ap₂ seq (back a s.0) (back b s.1)
  back (alt a b) s = ap₂ alt (back a s.0) (back b s.1)
  back (opt a) s = ap opt (back a s)
  back (star a) s = ap star (back a s)
  back (plus a) s = ap plus (back a s)
  back (ahead a) s = ap ahead (back a s)
  back (never a) s = ap never (back a s)

  rules-back : (rs : List Rule) (r k : ℕ) → SoundAll number (length names) x (present (map (right_by names) rs ++ replicate k none)) → ((i : ℕ) → i < length rs → f (r + i) ≡ get_or (left_sides rs) i (name []))
      → rules_in f r (map (right_by names) rs ++ replicate k none) ≡ rs
  unfolding rules_in present left_sides
  rules-back [] r zero s q = refl
  rules-back [] r (suc k) s q = rules-back [] (suc r) k s (λ i l. absurd (omega arith))
  rules-back (y ∷ rs) r k s q =
      ap₂ (λ (h : Symbol) (e : Exp Symbol). record { left = h; right = e } ∷ rules_in f (suc r) (map (right_by names) rs ++ replicate k none))
      (ap f (let z : r ≡ r + 0 = omega arith in z) ∙ q 0 (omega arith)) (back y.right s.0)
      ∙ ap (λ (l : List Rule). y ∷ l) (rules-back rs (suc r) k s.1 (λ i l. ap f (let z : suc r + i ≡ r + suc i = omega arith in z) ∙ q (suc i) (omega arith)))

pub lefts-long : (rs : List Rule) → length (left_sides rs) ≡ length rs
unfolding left_sides
lefts-long [] = refl
lefts-long (r ∷ rs) = ap suc (lefts-long rs)

module _ (m : Mode) (s : List ℕ) (g : Rules) (b : Bytes s) (sound : Sound m s g) (t : List ℕ) (h : Holds t (numbered (trees g))) where
  abbrev n : Grammar
  n = numbered (trees g)

  rights-sound : SoundAll (terminal_in n) (length n.names) (length n.terminals) (present n.rights)
  rights-sound = sound-rights m s g sound

  names-is : (r : ℕ) → r < length n.names → called false t r ≡ get_or n.names r (name [])
  names-is r l = called_is false t n h r l (name-bytes m (get_or n.names r (name [])) (fit-name m s g b sound r l))

  lefts-are : (i : ℕ) → i < length (trees g) → called false t (0 + i) ≡ get_or (left_sides (trees g)) i (name [])
  unfolding numbered symbols_of
  lefts-are i l =
      let k : i < length (left_sides (trees g)) = omega (arith, lefts-long (trees g)) in
      ap (called false t) (let z : 0 + i ≡ i = omega arith in z)
      ∙ names-is i (omega (arith, k, length-append (left_sides (trees g)) (loose_lakes (trees g))))
      ∙ get_or-append (left_sides (trees g)) (loose_lakes (trees g)) (name []) i k

  -- THE LAW: a table that holds a grammar as read is written as the grammar's rules
  pub own-rules : ruled false t ≡ trees g
  unfolding ruled numbered
  own-rules =
      ap (rules_in (called false t) 0) (rights-are t n h rights-sound)
      ∙ rules-back (symbols_of (trees g)) (terminal_in n) (length n.terminals) (called false t) names-is (low-leaves m s g b sound) (trees g) 0 (length (loose_lakes (trees g))) rights-sound lefts-are

  pub own-text : text_of false t ≡ text (trees g)
  unfolding text_of
  own-text = ap text own-rules
