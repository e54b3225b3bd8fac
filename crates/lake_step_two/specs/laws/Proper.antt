-- The plain bodies of a proper grammar are sound: each symbol and each terminal is one of the grammar's, and no literal is empty. Assumes nothing.
use Rattle.std.specs.Prelude.{ℕ, zero, suc, ◌+◌, ◌≤◌, ◌<◌, ◌≡◌, refl, Bool, ◌&&◌, length, get_or}
use Rattle.std.proofs.Common.{sym, ap, ◌∙◌, subst, arith}
use Rattle.std.proofs.Math.Bool.{true, false, not}
use mathlib.Core.List.{List, [], ◌∷◌, ◌++◌}
use Rattle.std.proofs.Math.Option.{Option, none, some}
use Rattle.read_tokens.specs.Token.{Symbol, Leaf, any}
use Rattle.grammar.specs.Exp.{Exp, sym as uses, ter, seq, alt, never}
use Rattle.grammar.specs.Empty.{empty_leaf}
use Rattle.grammar.specs.Lakes.{choice_of, skip_of, step_two}
use Rattle.grammar.specs.Numbers.{Grammar, is_lake}
use Rattle.base_words.specs.Set.{member_of}
use Rattle.grammar_table.specs.Holds.{present}
use Rattle.lake_step_one.specs.Intermediate.{intermediate}
use Rattle.lake_rules.specs.Analysis.{Analysis, analysis, lake_alt}
use Rattle.grammar.specs.Numbers.{terminal_in}
use Rattle.lake_step_one.specs.Proper.{Sound, SoundAll, Proper}
use Rattle.lake_plain.specs.Plain.{nonterminals_in, terminals_in, alternatives, plain_by, plain_from, plain_bodies}
use Rattle.lake_step_two.specs.steps.Stepped.{Once, plain_of}

module _ (number : Leaf → ℕ) (r x : ℕ) (dot : number any < x) where
  abbrev FullLeaf : Leaf → Type 0
  FullLeaf y = (number y < x) × (empty_leaf y ≡ false)

  abbrev AllLeaves : List Leaf → Type 0
  AllLeaves [] = Unit {0}
  AllLeaves (y ∷ ys) = FullLeaf y × AllLeaves ys

  both : (ds bs : List (Exp ℕ)) → SoundAll number r x ds → SoundAll number r x bs → SoundAll number r x (ds ++ bs)
  both [] bs h k = k
  both (e ∷ es) bs h k = (h.0, both es bs h.1 k)

  kept-symbol : (b : Bool) (i : ℕ) (es : List (Exp ℕ)) → i < r → SoundAll number r x es → SoundAll number r x (elim b as (λ c. List (Exp ℕ)) [ true ↦ uses i ∷ es | false ↦ es ])
  kept-symbol true i es h k = (h, k)
  kept-symbol false i es h k = k

  kept-leaf : (b : Bool) (y : Leaf) (es : List (Exp ℕ)) → FullLeaf y → SoundAll number r x es → SoundAll number r x (elim b as (λ c. List (Exp ℕ)) [ true ↦ ter y ∷ es | false ↦ es ])
  kept-leaf true y es h k = (h, k)
  kept-leaf false y es h k = k

  symbols-sound : (s : List ℕ) (i : ℕ) (hs : List Symbol) → i + length hs ≤ r → SoundAll number r x (nonterminals_in s i hs)
  unfolding nonterminals_in
  symbols-sound s i [] h = tt
  symbols-sound s i (y ∷ hs) h = kept-symbol (member_of s i && not (is_lake y)) i (nonterminals_in s (suc i) hs) (omega arith) (symbols-sound s (suc i) hs (omega arith))

  leaves-sound : (s : List ℕ) (i : ℕ) (ys : List Leaf) → AllLeaves ys → SoundAll number r x (terminals_in s i ys)
  unfolding terminals_in
  leaves-sound s i [] h = tt
  leaves-sound s i (y ∷ ys) h = kept-leaf (member_of s (64 + i)) y (terminals_in s (suc i) ys) h.0 (leaves-sound s (suc i) ys h.1)

  choice-sound : (a : Exp ℕ) (bs : List (Exp ℕ)) → Sound number r x a → SoundAll number r x bs → Sound number r x (choice_of a bs)
  unfolding choice_of
  choice-sound a [] h k = h
  choice-sound a (b ∷ bs) h k = choice-sound (alt a b) bs (h, k.0) k.1

  dot-sound : FullLeaf any
  unfolding empty_leaf
  dot-sound = (dot, refl)

  skip-sound : (ss : List (Exp ℕ)) → SoundAll number r x ss → Sound number r x (skip_of ss)
  unfolding skip_of
  skip-sound [] h = dot-sound
  skip-sound (a ∷ bs) h = (choice-sound a bs h.0 h.1, dot-sound)

  bare-sound : (l : Bool) (ss : List (Exp ℕ)) → SoundAll number r x ss → Sound number r x (plain_by l none ss)
  unfolding step_two
  bare-sound true ss k = skip-sound ss k
  bare-sound false ss k = dot-sound

  body-sound : (l : Bool) (b : Exp ℕ) (ss : List (Exp ℕ)) → Sound number r x b → SoundAll number r x ss → Sound number r x (plain_by l (some b) ss)
  unfolding step_two
  body-sound true b ss h k = (h, skip-sound ss k)
  body-sound false b ss h k = h

  module _ (g : Grammar) (a : Analysis) (n : length g.names ≤ r) (ls : AllLeaves g.terminals) where
    all_sound : (u : List ℕ) → SoundAll number r x (alternatives g u)
    unfolding alternatives
    all_sound u = both (nonterminals_in u 0 g.names) (terminals_in u 0 g.terminals) (symbols-sound u 0 g.names (omega arith)) (leaves-sound u 0 g.terminals ls)

    from-sound : (i : ℕ) (hs : List Symbol) (os : List (Option (Exp ℕ))) → SoundAll number r x (present os) → SoundAll number r x (plain_from g a i hs os)
    unfolding plain_from present
    from-sound i [] os h = tt
    from-sound i (y ∷ hs) [] h = tt
    from-sound i (y ∷ hs) (none ∷ os) h = (bare-sound (is_lake y) (alternatives g (lake_alt a i)) (all_sound (lake_alt a i)), from-sound (suc i) hs os h)
    from-sound i (y ∷ hs) (some b ∷ os) h =
        (body-sound (is_lake y) b (alternatives g (lake_alt a i)) h.0 (all_sound (lake_alt a i)), from-sound (suc i) hs os h.1)

  -- leaves by place
  by_place : (ys : List Leaf) → ((i : ℕ) → i < length ys → FullLeaf (get_or ys i any)) → AllLeaves ys
  by_place [] f = tt
  by_place (y ∷ ys) f = (f 0 (omega arith), by_place ys (λ i l. f (suc i) (omega arith)))

-- what no grammar that is read has: an empty literal
abbrev pub NoneEmpty : Grammar → Type 0
NoneEmpty g = (i : ℕ) → i < length g.terminals → empty_leaf (get_or g.terminals i any) ≡ false

pub plain-proper : (g : Grammar) → Proper g → Once g → NoneEmpty g → 0 < length g.terminals → SoundAll (terminal_in g) (length g.names) (length g.terminals) (plain_of g)
unfolding plain_bodies
plain-proper g p o e l =
    from-sound (terminal_in g) (length g.names) (length g.terminals) (omega (arith, o.dot, l)) g (analysis g) (omega arith)
    (by_place (terminal_in g) (length g.names) (length g.terminals) (omega (arith, o.dot, l)) g.terminals (λ i h. (omega (arith, o.each-its i h, h), e i h)))
    0 g.names (intermediate g) p
