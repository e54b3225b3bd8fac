-- The right sides of a text that refusals 1 to 5 let through are sound: each symbol and each terminal of them has a number of the grammar, and no
-- literal is empty. So its grammar is proper. Assumes nothing.
use Prim.Native.Nat.{ℕ, zero, suc, ◌<◌}
use Rattle.std.specs.Prelude.{◌≡◌, true, false, length, replicate}
use Rattle.std.proofs.Common.{sym, ap, ◌∙◌, subst}
use mathlib.Core.List.{List, [], ◌∷◌, ◌++◌, map}
use Rattle.std.proofs.Math.Option.{none}
use Rattle.read_tokens.specs.declared.Mode.{Mode}
use Rattle.read_tokens.specs.Token.{Symbol, Leaf, any}
use Rattle.read_tokens.specs.Tokens.{toks}
use Rattle.grammar.specs.Exp.{Exp, Rule, sym as symb, ter, seq, alt, opt, star, plus, ahead, never, rename, symbols_in, leaves_in}
use Rattle.grammar.specs.Empty.{empty_leaf}
use Rattle.grammar.specs.Same.{same_symbol, same_leaf, index_of}
use Rattle.grammar.specs.Syntax.{Rules}
use Rattle.grammar.specs.Trees.{trees}
use Rattle.grammar.specs.Numbers.{uses_of, loose_lakes, symbols_of, leaves_of, terminals_of, right_by, numbered}
use Rattle.grammar_table.specs.Holds.{present}
use Rattle.grammar_table.specs.laws.Rows.{adds, All, all_left, index_in}
use Rattle.read_grammar.specs.steps.Lay.{gathered}
use Rattle.read_grammar.specs.steps.Promises.{toks_at, Sound}
use Rattle.read_grammar.specs.laws.Entries.{symbol-refl}
use Rattle.grammar.specs.laws.Same.{leaf-refl}
use Rattle.read_grammar.specs.laws.Symbols.{uses, leaves, tells-uses, tells-leaves}
use Rattle.read_grammar.specs.laws.Whole.{all-names}
use Rattle.grammar.specs.Numbers.{terminal_in}
use Rattle.lake_step_one.specs.Proper.{Sound as SoundExp, SoundAll, Proper}
use Rattle.lake_step_one.proofs.laws.Proper.{proper-of}
use Rattle.prepare.specs.laws.Short.{terminals-adds, to-tokens}
use Rattle.prepare.specs.laws.Full.{Full, all-full, full-leaves}
use Rattle.prepare.specs.laws.There.{In, adds-has, uses-among}

module _ {A : Type 0} (P : A → Type 0) where
  all_right : (l m : List A) → All P (l ++ m) → All P m
  all_right [] m h = h
  all_right (x ∷ l) m h = all_right l m h.1

module _ {A : Type 0} (P Q : A → Type 0) (f : (x : A) → P x → Q x) where
  all_map : (l : List A) → All P l → All Q l
  all_map [] h = tt
  all_map (x ∷ l) h = (f x h.0, all_map l h.1)

module _ {A : Type 0} (P Q : A → Type 0) where
  all_both : (l : List A) → All P l → All Q l → All (λ x. P x × Q x) l
  all_both [] h k = tt
  all_both (x ∷ l) h k = ((h.0, k.0), all_both l h.1 k.1)

-- ── an expression, and the right sides of rules ──
module _ (names : List Symbol) (number : Leaf → ℕ) (r x : ℕ) where
  abbrev Known : Symbol → Type 0
  Known h = index_of same_symbol h names < r

  abbrev Met : Leaf → Type 0
  Met l = (number l < x) × (empty_leaf l ≡ false)

  expression-sound : (e : Exp Symbol) → All Known (symbols_in e) → All Met (leaves_in e) → SoundExp number r x (rename (λ h. index_of same_symbol h names) e)
  unfolding rename symbols_in leaves_in
  expression-sound (symb h) u v = u.0
  expression-sound (ter l) u v = v.0
  expression-sound (seq a b) u v = (
    expression-sound a (all_left Known (symbols_in a) (symbols_in b) u) (all_left Met (leaves_in a) (leaves_in b) v),
    expression-sound b (all_right Known (symbols_in a) (symbols_in b) u) (all_right Met (leaves_in a) (leaves_in b) v),
  )
  expression-sound (alt a b) u v = (
    expression-sound a (all_left Known (symbols_in a) (symbols_in b) u) (all_left Met (leaves_in a) (leaves_in b) v),
    expression-sound b (all_right Known (symbols_in a) (symbols_in b) u) (all_right Met (leaves_in a) (leaves_in b) v),
  )
  expression-sound (opt a) u v = expression-sound a u v
  expression-sound (star a) u v = expression-sound a u v
  expression-sound (plus a) u v = expression-sound a u v
  expression-sound (ahead a) u v = expression-sound a u v
  expression-sound (never a) u v = expression-sound a u v

  rules-sound : (rs : List Rule) (k : ℕ) → All Known (uses_of rs) → All Met (leaves_of rs) → SoundAll number r x (present (map (right_by names) rs ++ replicate k none))
  unfolding uses_of leaves_of present
  rules-sound [] zero u v = tt
  rules-sound [] (suc k) u v = rules-sound [] k u v
  rules-sound (y ∷ rs) k u v = (
    expression-sound y.right (all_left Known (symbols_in y.right) (uses_of rs) u) (all_left Met (leaves_in y.right) (leaves_of rs) v),
    rules-sound rs k (all_right Known (symbols_in y.right) (uses_of rs) u) (all_right Met (leaves_in y.right) (leaves_of rs) v),
  )

-- ── a text ──
module _ (m : Mode) (s : List ℕ) (g : Rules) (sound : Sound m s g) where
  uses-in : All (In same_symbol (symbols_of (trees g))) (uses_of (trees g))
  uses-in =
      subst (All (In same_symbol (symbols_of (trees g)))) (ap uses (to-tokens m s g sound) ∙ tells-uses g)
      (uses-among (In same_symbol (symbols_of (trees g))) (toks_at m s 0)
      (subst (λ (l : List Symbol). All (In same_symbol l) (gathered true (toks_at m s 0))) (all-names m s g sound)
      (adds-has same_symbol symbol-refl (adds same_symbol [] (gathered false (toks_at m s 0))) (gathered true (toks_at m s 0)))))

  leaves_in_lem : All (In same_leaf (terminals_of (trees g))) (leaves_of (trees g))
  leaves_in_lem =
      subst (λ (l : List Leaf). All (In same_leaf l) (leaves_of (trees g))) (terminals-adds g) (adds-has same_leaf leaf-refl (any ∷ []) (leaves_of (trees g)))

  leaves-full : All Full (leaves_of (trees g))
  leaves-full =
      subst (All Full) (ap leaves (sym sound.reads) ∙ tells-leaves g) (full-leaves (toks m s) (all-full m s))

  uses-known : All (Known (symbols_of (trees g)) (λ l. index_of same_leaf l (terminals_of (trees g))) (length (symbols_of (trees g))) (length (terminals_of (trees g)))) (uses_of (trees g))
  uses-known = all_map (In same_symbol (symbols_of (trees g))) _ (λ h e. index_in same_symbol h (symbols_of (trees g)) e) (uses_of (trees g)) uses-in

  leaves-met : All (Met (symbols_of (trees g)) (λ l. index_of same_leaf l (terminals_of (trees g))) (length (symbols_of (trees g))) (length (terminals_of (trees g)))) (leaves_of (trees g))
  leaves-met =
      all_both (λ l. index_of same_leaf l (terminals_of (trees g)) < length (terminals_of (trees g))) Full (leaves_of (trees g))
      (all_map (In same_leaf (terminals_of (trees g))) _ (λ l e. index_in same_leaf l (terminals_of (trees g)) e) (leaves_of (trees g)) leaves_in_lem)
      leaves-full

  pub sound-rights : SoundAll (terminal_in (numbered (trees g))) (length (numbered (trees g)).names) (length (numbered (trees g)).terminals) (present (numbered (trees g)).rights)
  unfolding numbered
  sound-rights =
      rules-sound (symbols_of (trees g)) (λ l. index_of same_leaf l (terminals_of (trees g))) (length (symbols_of (trees g))) (length (terminals_of (trees g)))
      (trees g) (length (loose_lakes (trees g))) uses-known leaves-met

  pub proper : Proper (numbered (trees g))
  proper = proper-of (numbered (trees g)) sound-rights
