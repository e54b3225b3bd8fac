-- THE LAW: the plain text of an accepted grammar is accepted in plain mode and read as the plain rules. Assumes nothing.
use Rattle.std.specs.Prelude.{ℕ, ◌+◌, ◌≤◌, ◌<◌, ◌≡◌, refl, true, false, get_or}
use Rattle.std.proofs.Common.{sym, ◌∙◌, le-ltb}
use Rattle.std.proofs.Math.Path.{ap, subst}
use mathlib.Core.List.{List, [], ◌∷◌, map}
use Rattle.std.proofs.Math.Option.{none}
use native.Mathlib.Omega.{arith}
use Rattle.std.proofs.Math.ListN.{length, length-map, length-append, get_or-map}
use Rattle.read_tokens.specs.declared.Mode.{Mode}
use Rattle.read_tokens.specs.declared.Mode.TheVariants.{Lake, Plain}
use Rattle.read_tokens.specs.Token.{Symbol, name, lake, Leaf, any, literal, class, symbol}
use Rattle.read_tokens.specs.Bounds.{text_bound, name_bound, open_bound, symbol_bound, terminal_bound, expression_bound}
use Rattle.read_tokens.specs.laws.Bytes.{Bytes}
use Rattle.grammar.specs.Exp.{Exp, Rule}
use Rattle.grammar.specs.Lakes.{plain_name}
use Rattle.grammar.specs.Same.{same_symbol, is_in, index_of}
use Rattle.grammar.specs.Syntax.{Rules}
use Rattle.grammar.specs.Trees.{trees}
use Rattle.grammar.specs.Numbers.{Grammar, left_sides, uses_of, loose_lakes, symbols_of, numbered}
use Rattle.read_syntax.specs.Machine.{over}
use Rattle.read_syntax.specs.Reading.{reserved, refuses_text, rules_of}
use Rattle.lake_step_one.specs.Intermediate.{water_in, intermediate}
use Rattle.lake_rules.specs.Analysis.{analysis}
use Rattle.grammar.specs.Numbers.{terminal_in}
use Rattle.grammar_table.specs.laws.Parts.{total}
use Rattle.lake_plain.specs.Plain.{plain_bodies, rules_by, plain_rules}
use Rattle.lake_step_two.specs.steps.Stepped.{plain_of}
use Rattle.grammar_table.specs.laws.Rows.{All}
use Rattle.read_grammar.specs.steps.Promises.{Sound}
use Rattle.prepare.specs.laws.Dot.{dot-in}
use Rattle.write_rules.specs.Writing.{text}
use Rattle.write_rules.proofs.laws.Terminals.{FineSymbol}
use Rattle.write_rules.proofs.laws.Renamed.{name-plain}
use Rattle.write_text.specs.laws.Fit.{FitName, FitLeaf, names-all, fit-names, fit-name}
use Rattle.write_text.specs.laws.Own.{lefts-long}
use Rattle.write_text.specs.laws.Plain.{plain_names, plain-sound, bodies-long}
use Rattle.write_text.specs.laws.Lengths.{name-brief, by-long, by_total, fit-leaves, plain-length}
use Rattle.write_back.specs.laws.Readable.{Distinct, Unreserved, Ruled, Readable}
use Rattle.write_back.specs.laws.Own.{some-rules, again, left-once, lefts-free, uses-free, no-deep}
use Rattle.write_back.specs.laws.Names.{Named, names-distinct, plain-distinct, in-at}
use Rattle.write_back.specs.laws.Deep.{peak-of, of-peak, Upto, Within, rights-upto, right-upto, bodies-upto, rules-upto}
use Rattle.write_back.specs.laws.Counts.{In, few-terminals, in-by}
use Rattle.write_back.specs.laws.Bodies.{uses-all, leaves_all, fine-all, narrow-all, lefts-by, Dry, none-loose}

-- ── a symbol by its plain name ──
fine-plain : (m : Mode) (h : Symbol) → FitName m h → FineSymbol Plain (plain_name h)
unfolding plain_name
fine-plain Lake h f = name-plain h f.0
fine-plain Plain (name w) f = f.0
fine-plain Plain (lake w) f = absurd f.0

over_plain : (m : Mode) (h : Symbol) → FitName m h → over Plain 0 (symbol (plain_name h)) ≡ false
unfolding over plain_name
over_plain m (name w) f = le-ltb (name_bound Plain) (length w) (name-brief m (name w) f)
over_plain m (lake w) f = le-ltb (name_bound Plain) (length (108 ∷ 97 ∷ 107 ∷ 101 ∷ 95 ∷ 95 ∷ w)) (name-brief m (lake w) f)

leaf-plain : (m : Mode) (y : Leaf) → FitLeaf m y → FitLeaf Plain y
unfolding over
leaf-plain m any f = f
leaf-plain m (literal l) f = f
leaf-plain m (class l) f = f

pub dry : (h : Symbol) → Dry (plain_name h)
unfolding plain_name
dry (name w) = refl
dry (lake w) = refl

ruled-plain : (lefts : List Symbol) (h : Symbol) → is_in same_symbol (plain_name h) lefts ≡ true → Ruled lefts (plain_name h)
unfolding plain_name
ruled-plain lefts (name w) e = e
ruled-plain lefts (lake w) e = e

module _ {A : Type 0} (P Q : A → Type 0) where
  both : (l : List A) → All P l → All Q l → All (λ x. P x × Q x) l
  both [] p q = tt
  both (x ∷ l) p q = ((p.0, q.0), both l p.1 q.1)

every : {A : Type 0} (P : A → Type 0) → ((x : A) → P x) → (l : List A) → All P l
every P f [] = tt
every P f (x ∷ l) = (f x, every P f l)

free-plain : (h : Symbol) → Unreserved Plain h
unfolding reserved
free-plain h = refl

module _ (m : Mode) (s : List ℕ) (g : Rules) (b : Bytes s) (sound : Sound m s g) where
  abbrev n : Grammar
  n = numbered (trees g)

  abbrev k : ℕ → Symbol
  k = plain_names n

  abbrev es : List (Exp ℕ)
  es = plain_of n

  abbrev ps : List Rule
  ps = rules_by k 0 es

  plain-fit : (r : ℕ) → r < length n.names → FitName Plain (k r)
  plain-fit r l = (fine-plain m (get_or n.names r (name [])) (fit-name m s g b sound r l), over_plain m (get_or n.names r (name [])) (fit-name m s g b sound r l))

  leaves-fit : (y : Leaf) → terminal_in n y < length n.terminals → FitLeaf Plain y
  leaves-fit y l = leaf-plain m y (fit-leaves m s g b sound y l)

  pub lefts-are : left_sides ps ≡ map plain_name n.names
  lefts-are = lefts-by k n.names es 0 (bodies-long (trees g)) (λ i l. ap k (let z : 0 + i ≡ i = omega arith in z))

  pub named : All (Named m) n.names
  unfolding numbered
  named = both (FitName m) (Unreserved m) (symbols_of (trees g)) (fit-names m s g b sound) (names-all (Unreserved m) (trees g) (lefts-free m s g b sound) (uses-free m s g b sound))

  pub names-once : Distinct [] n.names
  unfolding numbered
  names-once = names-distinct (trees g) (left-once m s g b sound)

  name_in : (r : ℕ) → r < length n.names → is_in same_symbol (k r) (map plain_name n.names) ≡ true
  unfolding plain_name
  name_in r l =
      ap (λ (h : Symbol). is_in same_symbol h (map plain_name n.names)) (sym (get_or-map plain_name n.names r (name [])))
      ∙ in-at (map plain_name n.names) r (omega (arith, l, length-map n.names plain_name))

  pub loose : loose_lakes ps ≡ []
  loose = none-loose ps (uses-all (terminal_in n) (length n.names) (length n.terminals) k Dry (λ r l. dry (get_or n.names r (name []))) es 0 (plain-sound m s g sound))

  rights-shallow : All (Upto k (open_bound m)) n.rights
  unfolding numbered
  rights-shallow = rights-upto k (open_bound m) (symbols_of (trees g)) (trees g) (length (loose_lakes (trees g))) (of-peak (open_bound m) (trees g) (no-deep m s g b sound))

  bodies-shallow : All (Within k) es
  unfolding plain_bodies intermediate water_in
  bodies-shallow =
      bodies-upto k m n (analysis n) (water_in n) 0 n.names n.rights (right-upto k (open_bound m) n.rights (index_of same_symbol (name (119 ∷ 97 ∷ 116 ∷ 101 ∷ 114 ∷ [])) n.names) rights-shallow) (fit-names m s g b sound) rights-shallow

  names-some : 0 < length n.names
  unfolding numbered symbols_of
  names-some = omega (arith, some-rules g, lefts-long (trees g), length-append (left_sides (trees g)) (loose_lakes (trees g)))

  module _ (few-s : length n.names ≤ 64) (few-t : length n.terminals ≤ 64) (small : total es ≤ 1024) where
    readable : Readable Plain ps
    unfolding plain_rules symbol_bound terminal_bound expression_bound open_bound text_bound symbols_of
    readable = record {
      fine = fine-all (terminal_in n) (length n.names) (length n.terminals) k Plain plain-fit leaves-fit es 0 (plain-sound m s g sound) (omega (arith, bodies-long (trees g)));
      short = plain-length m s g b sound few-s small;
      narrow = narrow-all (terminal_in n) (length n.names) (length n.terminals) k Plain plain-fit leaves-fit es 0 (plain-sound m s g sound) (omega (arith, bodies-long (trees g)));
      shallow = peak-of 33 ps (rules-upto k es 0 bodies-shallow);
      once = subst (Distinct []) (sym lefts-are) (plain-distinct m n.names [] named tt names-once);
      free-lefts = every (Unreserved Plain) free-plain (left_sides ps);
      free-uses = every (Unreserved Plain) free-plain (uses_of ps);
      ruled =
          subst (λ (l : List Symbol). All (Ruled l) (uses_of ps)) (sym lefts-are)
          (uses-all (terminal_in n) (length n.names) (length n.terminals) k (Ruled (map plain_name n.names)) (λ r l. ruled-plain (map plain_name n.names) (get_or n.names r (name [])) (name_in r l)) es 0 (plain-sound m s g sound));
      few-symbols =
          omega (arith, few-s, ap length lefts-are, length-map n.names plain_name, ap length loose, length-append (left_sides ps) (loose_lakes ps));
      few-terminals =
          omega (
            arith,
            few-t,
            few-terminals n.terminals ps (in-by n.terminals any (dot-in (trees g)))
                (leaves_all (terminal_in n) (length n.names) (length n.terminals) k (In n.terminals) (λ y l. in-by n.terminals y l) es 0 (plain-sound m s g sound)),
          );
      few-expressions = omega (arith, small, by_total k es 0);
    }

    pub plain-again : (refuses_text Plain (text (plain_rules n (analysis n))) ≡ none) × (rules_of Plain (text (plain_rules n (analysis n))) ≡ plain_rules n (analysis n))
    unfolding plain_rules
    plain-again = again Plain ps (omega (arith, names-some, bodies-long (trees g), by-long k es 0)) readable
