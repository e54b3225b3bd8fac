-- The plain grammar, numbered anew, has the plain names and the plain bodies; it is its own translation. Assumes nothing.
use Rattle.std.specs.Prelude.{ℕ, zero, suc, ◌<◌, ◌≡◌, Bool, false, cond, length, get_or}
use Rattle.std.proofs.Math.Path.{refl, ap, ap₂}
use Rattle.std.proofs.Common.{sym, ◌∙◌, arith}
use mathlib.Core.List.{List, [], ◌∷◌, ◌++◌, map, append-nil}
use Rattle.std.proofs.Math.Option.{Option, none, some}
use Rattle.std.proofs.Math.ListN.{replicate, length-map, get_or-map}
use Rattle.base_facts.specs.laws.Bools.{or-fails}
use Rattle.read_tokens.specs.declared.Mode.{Mode}
use Rattle.read_tokens.specs.Token.{Symbol, name, lake, Leaf}
use Rattle.read_tokens.specs.laws.Bytes.{Bytes}
use Rattle.grammar.specs.Exp.{Exp, Rule, sym as uses, ter, seq, alt, opt, star, plus, ahead, never, rename}
use Rattle.grammar.specs.Lakes.{plain_name}
use Rattle.grammar.specs.Same.{same_symbol, is_in, index_of}
use Rattle.grammar.specs.Syntax.{Rules}
use Rattle.grammar.specs.Trees.{trees}
use Rattle.grammar.specs.Numbers.{Grammar, is_lake, left_sides, symbols_of, right_by, numbered}
use Rattle.lake_step_one.specs.Intermediate.{water_in, intermediate_by, bodies_by, intermediate}
use Rattle.lake_rules.specs.Analysis.{Analysis, analysis, lake_alt}
use Rattle.grammar.specs.Numbers.{terminal_in}
use Rattle.lake_step_one.specs.Proper.{Sound as SoundExp, SoundAll}
use Rattle.lake_plain.specs.Plain.{alternatives, plain_by, plain_from, plain_bodies, rules_by, plain_rules}
use Rattle.lake_step_two.specs.steps.Stepped.{plain_of}
use Rattle.grammar_table.specs.laws.Rows.{All}
use Rattle.read_grammar.specs.steps.Promises.{Sound}
use Rattle.read_grammar.specs.laws.Entries.{symbol-refl}
use Rattle.write_text.specs.laws.Plain.{plain_names, plain-sound, bodies-long}
use Rattle.write_back.specs.laws.Readable.{Distinct}
use Rattle.write_back.specs.laws.Names.{plain-distinct}
use Rattle.write_back.specs.laws.Bodies.{Dry}
use Rattle.write_back.specs.laws.Plain.{lefts-are, named, names-once, loose, dry}

-- ── the number of a symbol that stands once ──

distinct-out : (l seen : List Symbol) → Distinct seen l → (i : ℕ) → i < length l → is_in same_symbol (get_or l i (name [])) seen ≡ false
unfolding is_in
distinct-out [] seen d i h = let z : ⊥ = omega arith in absurd z
distinct-out (x ∷ l) seen d zero h = d.0
distinct-out (x ∷ l) seen d (suc i) h = (or-fails (same_symbol (get_or l i (name [])) x) (is_in same_symbol (get_or l i (name [])) seen) (distinct-out l (x ∷ seen) d.1 i (omega arith))).1

number_of : (l seen : List Symbol) → Distinct seen l → (i : ℕ) → i < length l → index_of same_symbol (get_or l i (name [])) l ≡ i
unfolding index_of is_in
number_of [] seen d i h = let z : ⊥ = omega arith in absurd z
number_of (x ∷ l) seen d zero h = ap (λ (b : Bool). cond b 0 (suc (index_of same_symbol x l))) (symbol-refl x)
number_of (x ∷ l) seen d (suc i) h =
    let y = get_or l i (name []) in
    ap (λ (b : Bool). cond b 0 (suc (index_of same_symbol y l))) (or-fails (same_symbol y x) (is_in same_symbol y seen) (distinct-out l (x ∷ seen) d.1 i (omega arith))).0
    ∙ ap suc (number_of l (x ∷ seen) d.1 i (omega arith))

-- ── names for numbers, and numbers again ──
module _ (number : Leaf → ℕ) (n x : ℕ) (k : ℕ → Symbol) (names : List Symbol) (same : (r : ℕ) → r < n → index_of same_symbol (k r) names ≡ r) where
  back : (e : Exp ℕ) → SoundExp number n x e → rename (λ h. index_of same_symbol h names) (rename k e) ≡ e
  unfolding rename
  back (uses r) h = ap uses (same r h)
  back (ter y) h = refl
  back (seq a b) h = ap₂ seq (back a h.0) (back b h.1)
  back (alt a b) h = ap₂ alt (back a h.0) (back b h.1)
  back (opt a) h = ap opt (back a h)
  back (star a) h = ap star (back a h)
  back (plus a) h = ap plus (back a h)
  back (ahead a) h = ap ahead (back a h)
  back (never a) h = ap never (back a h)

  rights-back : (es : List (Exp ℕ)) (r : ℕ) → SoundAll number n x es → map (right_by names) (rules_by k r es) ≡ map some es
  unfolding rules_by
  rights-back [] r h = refl
  rights-back (e ∷ es) r h = ap₂ ◌∷◌ (ap some (back e h.0)) (rights-back es (suc r) h.1)

-- ── without lakes the translation changes nothing ──
dry-body : (h : Symbol) (w : Option (Exp ℕ)) (e : Exp ℕ) (ss : List (Exp ℕ)) → Dry h → plain_by (is_lake h) (intermediate_by (is_lake h) w (some e)) ss ≡ e
dry-body h w e ss d = ap (λ (b : Bool). plain_by b (intermediate_by b w (some e)) ss) d

dry-bodies : (g : Grammar) (a : Analysis) (w : Option (Exp ℕ)) (hs : List Symbol) (es : List (Exp ℕ)) (r : ℕ) → All Dry hs → length hs ≡ length es → plain_from g a r hs
    (bodies_by w hs (map some es)) ≡ es
unfolding plain_from bodies_by
dry-bodies g a w [] [] r d l = refl
dry-bodies g a w [] (e ∷ es) r d l = absurd (omega (arith, l))
dry-bodies g a w (h ∷ hs) [] r d l = absurd (omega (arith, l))
dry-bodies g a w (h ∷ hs) (e ∷ es) r d l = ap₂ ◌∷◌ (dry-body h w e (alternatives g (lake_alt a r)) d.0) (dry-bodies g a w hs es (suc r) d.1 (omega (arith, l)))

all-dry : (l : List Symbol) → All Dry (map plain_name l)
all-dry [] = tt
all-dry (h ∷ l) = (dry h, all-dry l)

plain-twice : (h : Symbol) → plain_name (plain_name h) ≡ plain_name h
unfolding plain_name
plain-twice (name w) = refl
plain-twice (lake w) = refl

-- names that are the same
module _ (f k : ℕ → Symbol) (same : (r : ℕ) → f r ≡ k r) where
  renamed : (e : Exp ℕ) → rename f e ≡ rename k e
  unfolding rename
  renamed (uses r) = ap uses (same r)
  renamed (ter y) = refl
  renamed (seq a b) = ap₂ seq (renamed a) (renamed b)
  renamed (alt a b) = ap₂ alt (renamed a) (renamed b)
  renamed (opt a) = ap opt (renamed a)
  renamed (star a) = ap star (renamed a)
  renamed (plus a) = ap plus (renamed a)
  renamed (ahead a) = ap ahead (renamed a)
  renamed (never a) = ap never (renamed a)

  rules-same : (es : List (Exp ℕ)) (r : ℕ) → rules_by f r es ≡ rules_by k r es
  unfolding rules_by
  rules-same [] r = refl
  rules-same (e ∷ es) r = ap₂ ◌∷◌ (ap₂ (λ (a : Symbol) (b : Exp Symbol). record { left = a; right = b }) (same r) (renamed e)) (rules-same es (suc r))

module _ (m : Mode) (s : List ℕ) (g : Rules) (b : Bytes s) (sound : Sound m s g) where
  abbrev n : Grammar
  n = numbered (trees g)

  abbrev es : List (Exp ℕ)
  es = plain_of n

  abbrev ps : List Rule
  ps = plain_rules n (analysis n)

  names-are : symbols_of ps ≡ map plain_name n.names
  unfolding symbols_of plain_rules
  names-are =
      ap (λ (l : List Symbol). left_sides ps ++ l) (loose m s g b sound) ∙ append-nil (left_sides ps) ∙ lefts-are m s g b sound

  distinct : Distinct [] (map plain_name n.names)
  distinct = plain-distinct m n.names [] (named m s g b sound) tt (names-once m s g b sound)

  number_is : (r : ℕ) → r < length n.names → index_of same_symbol (plain_names n r) (map plain_name n.names) ≡ r
  unfolding plain_name
  number_is r l =
      ap (λ (h : Symbol). index_of same_symbol h (map plain_name n.names)) (sym (get_or-map plain_name n.names r (name [])))
      ∙ number_of (map plain_name n.names) [] distinct r (omega (arith, l, length-map n.names plain_name))

  pub again-names : (numbered ps).names ≡ map plain_name n.names
  unfolding numbered
  again-names = names-are

  pub again-rights : (numbered ps).rights ≡ map some es
  unfolding numbered plain_rules
  again-rights =
      ap (λ (l : List Symbol). map (right_by (symbols_of ps)) ps ++ replicate (length l) none) (loose m s g b sound)
      ∙ append-nil (map (right_by (symbols_of ps)) ps)
      ∙ ap (λ (l : List Symbol). map (right_by l) ps) names-are
      ∙ rights-back (terminal_in n) (length n.names) (length n.terminals) (plain_names n) (map plain_name n.names) number_is es 0 (plain-sound m s g sound)

  -- THE LAW: the bodies that are matched are the same
  pub again-bodies : plain_of (numbered ps) ≡ es
  unfolding plain_bodies intermediate
  again-bodies =
      let q : Grammar = numbered ps in
      ap (λ (os : List (Option (Exp ℕ))). plain_from q (analysis q) 0 q.names (bodies_by (water_in q) q.names os)) again-rights
      ∙ ap (λ (hs : List Symbol). plain_from q (analysis q) 0 hs (bodies_by (water_in q) hs (map some es))) again-names
      ∙ dry-bodies q (analysis q) (water_in q) (map plain_name n.names) es 0 (all-dry n.names) (omega (arith, length-map n.names plain_name, bodies-long (trees g)))

  called_same : (r : ℕ) → plain_names (numbered ps) r ≡ plain_names n r
  unfolding plain_name
  called_same r =
      ap (λ (hs : List Symbol). plain_name (get_or hs r (name []))) again-names
      ∙ ap plain_name (get_or-map plain_name n.names r (name []))
      ∙ plain-twice (get_or n.names r (name []))

  -- and so is the text that is written again
  pub again-plain : plain_rules (numbered ps) (analysis (numbered ps)) ≡ ps
  unfolding plain_rules
  again-plain = ap (rules_by (plain_names (numbered ps)) 0) again-bodies ∙ rules-same (plain_names (numbered ps)) (plain_names n) called_same es 0
