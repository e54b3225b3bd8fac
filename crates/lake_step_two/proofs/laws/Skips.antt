-- The alternatives of a lake, one after the other. Assumes nothing.
use Prim.Native.Nat.{ℕ, zero, suc, ◌+◌, ◌-◌, ◌*◌, ◌≤◌, ◌<◌}
use Rattle.std.specs.Prelude.{◌≡◌, Bool, true, false, not, ◌&&◌, get_or}
use Rattle.std.proofs.Math.Path.{refl, sym, ap, ap₂, subst}
use Rattle.std.proofs.Common.{◌∙◌, add-one, length-append}
use mathlib.Core.List.{List, [], ◌∷◌, ◌++◌}
use Rattle.std.proofs.Math.Option.{none, some}
use native.Mathlib.Omega.{arith}
use Rattle.std.proofs.Math.ListN.{length}
use Rattle.read_tokens.specs.Token.{Leaf, any}
use Rattle.grammar.specs.Exp.{Exp, sym as uses, ter, seq, alt, never, size}
use Rattle.grammar.specs.Lakes.{choice_of, skip_of, step_two}
use Rattle.grammar.specs.Parts.{Part, terminal, occurs, choice, sequence, denies, last, parts_of}
use Rattle.grammar_table.specs.Table.{table_words, part_by, part_in}
use Rattle.base_words.specs.Set.{member_of}
use Rattle.grammar_table.specs.laws.Parts.{size-pos, parts-long}
use Rattle.lake_step_one.specs.steps.Runs.{stored, Grew, nil, PartsRun, CopiedRun}
use Rattle.lake_step_one.specs.steps.Made.{lake_at}
use Rattle.lake_step_one.proofs.laws.Stores.{grew-one, grew_none, grew-two, grew-as}
use Rattle.lake_step_one.proofs.laws.Bodies.{dot, run, both}
use Rattle.lake_plain.specs.Plain.{plain_by}
use Rattle.std.specs.Prelude.{Option as Optional}
use Rattle.lake_step_one.specs.declared.extent.Extent.{Extent}
use Rattle.lake_step_one.specs.steps.Extents.{from_of, end_of, Spans}
use Rattle.lake_step_one.proofs.laws.Extents.{spanned}
use Rattle.lake_step_two.specs.steps.Skips.{choice_parts, only_if, each, symbol_in, terminal_of, chosen_in, Adds, Added, AddedSymbol, AddedTerminal, AddedSymbols, AddedTerminals}
use Rattle.lake_step_two.specs.steps.Skips.{Numbered, ChoiceTo, SkipTo, PlainTo}

append-none : {A : Type 0} (l : List A) → l ++ [] ≡ l
append-none [] = refl
append-none (x ∷ l) = ap (λ (r : List _). x ∷ r) (append-none l)

pub append_assoc : {A : Type 0} (a b c : List A) → (a ++ b) ++ c ≡ a ++ (b ++ c)
append_assoc [] b c = refl
append_assoc (x ∷ a) b c = ap (λ (r : List _). x ∷ r) (append_assoc a b c)

choice-more : (a e : Exp ℕ) (bs : List (Exp ℕ)) → choice_of a (bs ++ (e ∷ [])) ≡ alt (choice_of a bs) e
unfolding choice_of
choice-more a e [] = refl
choice-more a e (b ∷ bs) = choice-more (alt a b) e bs

-- nothing added
pub adds_none : (number : Leaf → ℕ) (o m : ℕ) (mid : List ℕ) → Adds number [] o mid m mid m
adds_none number o m mid first ss w g = grew-as g (ap (choice_parts number o) (sym (append-none ss))) refl

-- one lot after the other
pub adds-two : (number : Leaf → ℕ) (o m n k : ℕ) (a b c : List ℕ) (es fs : List (Exp ℕ)) → Adds number es o a m b n → Adds number fs o b n c k → Adds number (es ++ fs) o a m c k
adds-two number o m n k a b c es fs p q first ss w g =
    grew-as (q first (ss ++ es) w (p first ss w g)) (ap (choice_parts number o) (append_assoc ss es fs)) refl

module _ (op x o m : ℕ) (mid b : List ℕ) (put : b ≡ stored mid m op x 0) where
  one : (number : Leaf → ℕ) (e : Exp ℕ) → ((i : ℕ) → parts_of number i e ≡ part_by op x 0 ∷ []) → length mid ≡ table_words → Grew mid m (parts_of number m e) b (m + 1)
  one number e h w =
      grew-as (subst (λ (y : List ℕ). Grew mid m (part_by op x 0 ∷ []) y (m + 1)) (sym put) (grew-one mid m op x 0 (part_by op x 0) w (λ l. refl))) (sym (h m)) refl

  pub added-first : m ≡ o → Added op x o mid m b (m + 1)
  unfolding choice_of
  added-first eq number e h first [] w g =
      grew-as (grew-two first mid b o m (m + 1) [] (parts_of number m e) g (one number e h (g.long ∙ w))) (ap (λ (i : ℕ). parts_of number i e) eq) refl
  added-first eq number e h first (y ∷ ss) w g =
      let z : ⊥ = omega (arith, g.count, parts-long number (choice_of y ss) o, size-pos (choice_of y ss)) in absurd z

  pub added_next : (c : List ℕ) (l r : ℕ) → (m ≡ o → ⊥) → (m - 1 < 4294967296 → l ≡ m - 1) → (m < 4294967296 → r ≡ m) → c ≡ stored b (m + 1) 3 l r → Added op x o mid m c (m + 2)
  unfolding parts_of part_by
  added_next c l r ne hl hr put2 number e h first [] w g = let z : ⊥ = ne (omega (arith, g.count)) in absurd z
  added_next c l r ne hl hr put2 number e h first (y ∷ ss) w g =
      let C = choice_of y ss in
      let mm : m ≡ o + size C = g.count ∙ ap (λ (i : ℕ). o + i) (parts-long number C o) in
      let se : size e ≡ 1 = sym (parts-long number e m) ∙ ap length (h m) in
      let pos : 0 < size C = size-pos C in
      let K = choice (last o C) (last (o + size C) e) in
      let two : Grew first o (parts_of number o C ++ parts_of number m e) b (m + 1) = grew-two first mid b o m (m + 1) (parts_of number o C) (parts_of number m e) g (one number e h (g.long ∙ w)) in
      let three : Grew b (m + 1) (K ∷ []) c (m + 1 + 1)
      = subst (λ (v : List ℕ). Grew b (m + 1) (K ∷ []) v (m + 1 + 1)) (sym put2) (grew-one b (m + 1) 3 l r K (two.long ∙ w)
      (λ v. ap₂ choice (hl (omega arith) ∙ (let q : m - 1 ≡ o + size C - 1 = omega arith in q)) (hr (omega arith) ∙ (let q : m ≡ o + size C + size e - 1 = omega arith in q)))) in
      grew-as (grew-two first b c o (m + 1) (m + 1 + 1) (parts_of number o C ++ parts_of number m e) (K ∷ []) two three)
      (append_assoc (parts_of number o C) (parts_of number m e) (K ∷ []) ∙ ap (λ (i : ℕ). parts_of number o C ++ (parts_of number i e ++ (K ∷ []))) mm ∙ sym
      (ap (parts_of number o) (choice-more y e ss))) (omega arith)

-- ---- one symbol, one terminal
symbol-part : (number : Leaf → ℕ) (i j : ℕ) → parts_of number j (uses i) ≡ part_by 1 i 0 ∷ []
unfolding parts_of part_by
symbol-part number i j = refl

terminal-part : (number : Leaf → ℕ) (x : Leaf) (i j : ℕ) → number x ≡ i → parts_of number j (ter x) ≡ part_by 0 i 0 ∷ []
unfolding parts_of part_by
terminal-part number x i j e = ap (λ (y : ℕ). terminal y ∷ []) e

module _ (t s : List ℕ) (i o m : ℕ) (mid : List ℕ) where
  pub symbol-not : member_of s i ≡ false → AddedSymbol t s i o mid m mid m
  symbol-not e number = subst (λ (b : Bool). Adds number (only_if (b && not (lake_at t i)) (uses i)) o mid m mid m) (sym e) (adds_none number o m mid)

  pub symbol-lake : member_of s i ≡ true → lake_at t i ≡ true → AddedSymbol t s i o mid m mid m
  symbol-lake e f number = subst (λ (b : Bool). Adds number (only_if b (uses i)) o mid m mid m) (sym (ap₂ (λ (x y : Bool). x && not y) e f)) (adds_none number o m mid)

  pub symbol-yes : (b : List ℕ) (u : ℕ) → member_of s i ≡ true → lake_at t i ≡ false → Added 1 i o mid m b u → AddedSymbol t s i o mid m b u
  symbol-yes b u e f h number = subst (λ (y : Bool). Adds number (only_if y (uses i)) o mid m b u) (sym (ap₂ (λ (x y : Bool). x && not y) e f)) (h number (uses i) (symbol-part number i))

  pub terminal-not : member_of s (64 + i) ≡ false → AddedTerminal s i o mid m mid m
  terminal-not e number leaf q = subst (λ (b : Bool). Adds number (only_if b (ter (leaf i))) o mid m mid m) (sym e) (adds_none number o m mid)

  pub terminal-yes : (b : List ℕ) (u : ℕ) → member_of s (64 + i) ≡ true → Added 0 i o mid m b u → AddedTerminal s i o mid m b u
  terminal-yes b u e h number leaf q = subst (λ (y : Bool). Adds number (only_if y (ter (leaf i))) o mid m b u) (sym e) (h number (ter (leaf i)) (λ j. terminal-part number (leaf i) i j q))

-- ---- one after the other
pub each_none : (number : Leaf → ℕ) (f : ℕ → List (Exp ℕ)) (o m : ℕ) (mid : List ℕ) → Adds number (each f 0) o mid m mid m
unfolding each
each_none number f o m mid = adds_none number o m mid

pub each_more : (number : Leaf → ℕ) (f : ℕ → List (Exp ℕ)) (i o m n k : ℕ) (a b c : List ℕ) → Adds number (each f i) o a m b n → Adds number (f i) o b n c k → Adds number (each f (i + 1)) o a m c k
unfolding each
each_more number f i o m n k a b c p q = subst (λ (j : ℕ). Adds number (each f j) o a m c k) (sym (add-one i)) (adds-two number o m n k a b c (each f i) (f i) p q)

-- all of them
pub choice-done : (t s : List ℕ) (r x m p u : ℕ) (mid b c : List ℕ) → AddedSymbols t s r m mid b p → AddedTerminals s x m b p c u → ChoiceTo t s r x mid m c u
choice-done t s r x m p u mid b c h k number leaf n w =
    adds-two number m m p u mid b c (each (symbol_in t s) r) (each (terminal_of leaf s) x) (h number) (k number leaf n) mid [] w (grew_none mid m)

-- ---- `!(s1 / .. / sn) .`
module _ (t s : List ℕ) (r x m p : ℕ) (mid b : List ℕ) (chosen : ChoiceTo t s r x mid m b p) where
  pub skip-none : (c : List ℕ) → p ≡ m → c ≡ stored b p 0 0 0 → SkipTo t s r x mid m c (p + 1)
  unfolding skip_of
  skip-none c e put number leaf n z w = by (chosen_in t leaf s r x) (chosen number leaf n w)
    where
      by : (ss : List (Exp ℕ)) → Grew mid m (choice_parts number m ss) b p → Grew mid m (parts_of number m (skip_of ss)) c (p + 1)
      by [] g = grew-as (grew-two mid b c m p (p + 1) [] (parts_of number p (ter any)) g (dot number b c p (g.long ∙ w) z put)) (ap (λ (i : ℕ). parts_of number i (ter any)) e) refl
      by (y ∷ ss) g = let bad : ⊥ = omega (arith, g.count, parts-long number (choice_of y ss) m, size-pos (choice_of y ss)) in absurd bad

  pub skip-some : (c d f : List ℕ) (l u v : ℕ) → (p ≡ m → ⊥) → (p - 1 < 4294967296 → l ≡ p - 1) → c ≡ stored b p 8 l 0 → d ≡ stored c (p + 1) 0 0 0 → (p < 4294967296 → u ≡ p)
      → (p + 1 < 4294967296 → v ≡ p + 1)
      → f ≡ stored d (p + 2) 2 u v → SkipTo t s r x mid m f (p + 3)
  unfolding skip_of parts_of part_by size
  skip-some c d f l u v ne hl pc pd hu hv pf number leaf n z w = by (chosen_in t leaf s r x) (chosen number leaf n w)
    where
      by : (ss : List (Exp ℕ)) → Grew mid m (choice_parts number m ss) b p → Grew mid m (parts_of number m (skip_of ss)) f (p + 3)
      by [] g = let bad : ⊥ = ne (omega (arith, g.count)) in absurd bad
      by (y ∷ ss) g =
          let C = choice_of y ss in
          let pp : p ≡ m + size C = g.count ∙ ap (λ (i : ℕ). m + i) (parts-long number C m) in
          let pos : 0 < size C = size-pos C in
          let D = denies (last m C) in
          let S = sequence (m + suc (size C) - 1) (m + suc (size C) + 1 - 1) in
          let one : Grew mid m (parts_of number m C ++ (D ∷ [])) c (p + 1)
          = grew-two mid b c m p (p + 1) (parts_of number m C) (D ∷ []) g
          (subst (λ (k : List ℕ). Grew b p (D ∷ []) k (p + 1)) (sym pc) (grew-one b p 8 l 0 D (g.long ∙ w)
          (λ k. ap denies (hl (omega arith) ∙ (let q : p - 1 ≡ m + size C - 1 = omega arith in q))))) in
          let two : Grew c (p + 1) (terminal (number any) ∷ []) d (p + 1 + 1) = dot number c d (p + 1) (one.long ∙ w) z pd in
          let pf' : f ≡ stored d (p + 1 + 1) 2 u v = pf ∙ ap (λ (i : ℕ). stored d i 2 u v) (let q : p + 2 ≡ p + 1 + 1 = omega arith in q) in
          let three : Grew d (p + 1 + 1) (S ∷ []) f (p + 1 + 1 + 1)
          = subst (λ (k : List ℕ). Grew d (p + 1 + 1) (S ∷ []) k (p + 1 + 1 + 1)) (sym pf') (grew-one d (p + 1 + 1) 2 u v S (two.long ∙ one.long ∙ w)
          (λ k. ap₂ sequence (hu (omega arith) ∙ (let q : p ≡ m + suc (size C) - 1 = omega arith in q)) (hv (omega arith) ∙ (let q : p + 1 ≡ m + suc (size C) + 1 - 1 = omega arith in q)))) in
          grew-as (grew-two mid c f m (p + 1) (p + 1 + 1 + 1) (parts_of number m C ++ (D ∷ [])) (terminal (number any) ∷ S ∷ []) one
          (grew-two c d f (p + 1) (p + 1 + 1) (p + 1 + 1 + 1) (terminal (number any) ∷ []) (S ∷ []) two three)) refl (omega arith)

-- ---- a symbol's plain body
module _ (t s : List ℕ) (r x a b m : ℕ) (mid : List ℕ) where
  -- without a body: the skip alone
  pub plain-bare : (d : List ℕ) (p : ℕ) → b ≡ 0 → SkipTo t s r x mid m d p → PlainTo t true s r x a b mid m d p
  unfolding step_two
  plain-bare d p e skips number leaf none n z w q = skips number leaf n z w
  plain-bare d p e skips number leaf (some o) n z w q = absurd (omega (arith, q.0, size-pos o))

  pub plain-dot : (c : List ℕ) → b ≡ 0 → c ≡ stored mid m 0 0 0 → PlainTo t false s r x a b mid m c (m + 1)
  plain-dot c e put number leaf none n z w q = dot number mid c m w z put
  plain-dot c e put number leaf (some o) n z w q = absurd (omega (arith, q.0, size-pos o))

  module _ (k : ℕ) (c : List ℕ) (there : b ≡ 0 → ⊥) (span : k ≡ b - a) (copied : CopiedRun t a k mid m c) where
    pub plain-lake : (d f : List ℕ) (p l y : ℕ) → SkipTo t s r x c (m + k) d p → (m + k - 1 < 4294967296 → l ≡ m + k - 1) → (p - 1 < 4294967296 → y ≡ p - 1) → f ≡ stored d p 3 l y
        → PlainTo t true s r x a b mid m f (p + 1)
    unfolding step_two
    plain-lake d f p l y skips hl hy put number leaf none n z w q = absurd (there q)
    plain-lake d f p l y skips hl hy put number leaf (some e) n z w q =
        let one : Grew mid m (parts_of number m e) c (m + k) = run number t mid c a k m b e w q.0 span q.1 copied in
        both number mid c d f m k p l y e (skip_of (chosen_in t leaf s r x)) one (omega (arith, q.0, span)) (skips number leaf n z (one.long ∙ w)) w hl hy put

    pub plain_other : PlainTo t false s r x a b mid m c (m + k)
    plain_other number leaf none n z w q = absurd (there q)
    plain_other number leaf (some e) n z w q = run number t mid c a k m b e w q.0 span q.1 copied

-- a body whose word is b
pub plain-spanned : (t : List ℕ) (lake : Bool) (s : List ℕ) (r x a b : ℕ) (o : Optional Extent) (mid : List ℕ) (m : ℕ) (one : List ℕ) (p : ℕ) → Spans a b o
    → PlainTo t lake s r x (from_of o) (end_of o) mid m one p → PlainTo t lake s r x a b mid m one p
plain-spanned t lake s r x a b o mid m one p sp to number leaf w num z l v = to number leaf w num z l (spanned number t a b o w sp v)
