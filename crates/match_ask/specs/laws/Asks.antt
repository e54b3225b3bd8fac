-- The lake question, from what its parts answer. Assumes nothing.
use Rattle.std.specs.Prelude.{ℕ, ◌+◌, ◌*◌, ◌≤◌, ◌<◌, ◌≡◌, Bool, true, false, not, ◌&&◌, ◌⊎◌, length, get_or, leb, ltb, Option, None, Some}
use Rattle.std.proofs.Math.Path.{refl, sym, ap, ap₂}
use Rattle.std.proofs.Common.{◌∙◌, subst, true≢false, inl, inr, arith}
use mathlib.Core.List.{List, []}
use Rattle.std.proofs.Math.Option.{Option as Maybe, none, some}
use borrow.Author.Tests.{lt-ltb, le-ltb, ltb-true, lt-leb, le-leb}
use Rattle.base_facts.specs.laws.Bools.{and_left}
use Rattle.base_facts.specs.laws.Numbers.{lt-or-ge}
use Rattle.read_tokens.specs.Token.{name}
use Rattle.read_tokens.specs.declared.Mode.{Mode}
use Rattle.grammar.specs.Numbers.{Grammar, numbered, is_lake}
use Rattle.grammar.specs.Refusal.{Refusal, refusal, refuse_if, ◌▸◌}
use Rattle.grammar_table.specs.Table.{symbol_count, name_in, grammar_in}
use Rattle.grammar_table.specs.Holds.{Holds}
use Rattle.grammar_table.specs.laws.Lists.{up-length}
use Rattle.read_syntax.specs.Reading.{rules_of}
use Rattle.lake_rules.specs.Analysis.{analysis, lake_alt}
use Rattle.lake_sets.specs.steps.Steps.{alt_in}
use Rattle.lake_analysis.specs.steps.Lent.{lake_in}
use Rattle.lake_analysis.specs.laws.Skip.{lake-is, alt-is}
use Rattle.lake_step_two.specs.steps.Stepped.{plain_of}
use Rattle.lake_calls.specs.laws.Trees.{bodies-are}
use Rattle.match_cells.specs.steps.Runs.{Fills}
use Rattle.match_lake.specs.Asking.{way_in}
use Rattle.match_lake.specs.laws.Tables.{way-is}
use Rattle.match_run.specs.steps.Runs.{refuses_room, filled_by}
use Rattle.match_run.specs.laws.Runs.{input-long, input-few, enough}
use Rattle.prepare.specs.declared.Counted.{Counted}
use Rattle.prepare.specs.declared.Verdict.{Verdict}
use Rattle.prepare.specs.declared.Verdict.TheVariants.{Accepted, Refused as VerdictRefused}
use Rattle.prepare.specs.Prepare.{Prepared, prepared, prepared_by}
use Rattle.prepare.specs.steps.Loads.{Stands, Ready}
use Rattle.prepare.specs.Reads.{is_refused, read_of}
use Rattle.prepare.specs.laws.Reads.{clear-good, clear-loop, clear-sound}
use Rattle.match_lake.specs.declared.ways.Way.{Way}
use Rattle.match_lake.specs.steps.Ways.{way_of}
use Rattle.match_ask.specs.declared.LakeAlt.{LakeAlt}
use Rattle.match_ask.specs.declared.LakeWay.{LakeWay}
use Rattle.match_ask.specs.steps.Asks.{not_asked, Lent, lent, is_lake_of, is_there, asked_after, asked_of, LakeIn, AltOf, Stood, Looked}

-- as many symbols as the grammar has
pub symbols-of : (t : List ℕ) (g : Grammar) → Holds t g → symbol_count t ≡ length g.names
symbols-of t g h = sym (up-length (name_in t) (symbol_count t)) ∙ ap length h.names

-- ── what is asked of a symbol ──
module _ (mid : List ℕ) (n l : ℕ) where
  pub lake-past : n ≤ l → (ltb l n && lake_in mid l) ≡ false
  lake-past h = ap (λ (b : Bool). b && lake_in mid l) (le-ltb l n h)

  pub lake-kind : {b : Bool} → l < n → lake_in mid l ≡ b → (ltb l n && lake_in mid l) ≡ b
  lake-kind there h = ap (λ (b : Bool). b && lake_in mid l) (lt-ltb l n there) ∙ h

-- ── of a text that is accepted ──
module _ (m : Mode) (s : List ℕ) where
  abbrev g : Grammar
  g = numbered (rules_of m s)

  abbrev p : Prepared
  p = prepared m s

  module _ (t mid : List ℕ) (ms : List Bool) (sets : List (List ℕ)) (eps : List Bool) (succ alts : List (List ℕ)) (out : List ℕ) (rounds : ℕ) (st : Stands m s t mid ms sets eps succ alts out rounds)
      (n l : ℕ) (e : n ≡ symbol_count out) where
    names-long : n ≡ length p.grammar.names
    unfolding prepared prepared_by
    names-long = e ∙ symbols-of out _ st.worked.plain

    kind-is : l < n → lake_in mid l ≡ is_lake (get_or p.grammar.names l (name []))
    unfolding prepared prepared_by
    kind-is h = lake-is mid g st.worked.between (clear-good m s st.clear).proper ms _ _ _ alts rounds st.worked.analysed l (omega (arith, h, names-long))

    there-is : (ltb l n && lake_in mid l) ≡ is_lake_of p l
    there-is = go (lt-or-ge l n)
      where
        go : (l < n) ⊎ (n ≤ l) → (ltb l n && lake_in mid l) ≡ is_lake_of p l
        go (inl h) = ap₂ (λ (k : ℕ) (b : Bool). ltb l k && b) names-long (kind-is h)
        go (inr h) =
            ap (λ (b : Bool). b && lake_in mid l) (le-ltb l n h)
            ∙ sym (ap (λ (b : Bool). b && is_lake (get_or p.grammar.names l (name []))) (le-ltb l (length p.grammar.names) (omega (arith, h, names-long))))

    set_is : (a : List ℕ) → l < n → a ≡ alt_in mid alts l → a ≡ lake_alt p.analysis l
    unfolding prepared prepared_by
    set_is a h x = x ∙ alt-is mid g st.worked.between (clear-good m s st.clear).proper ms _ _ _ alts rounds st.worked.analysed l (omega (arith, h, names-long))

    inside : (b : Bool) → (ltb l n && b) ≡ true → l < n
    inside b h = ltb-true l n (and_left (ltb l n) b h)

    alt_of : (o : Option (List ℕ)) → LakeIn mid alts n l o → AltOf p l o
    alt_of None w = sym there-is ∙ w
    alt_of (Some a) w = (sym there-is ∙ w.0, set_is a (inside (lake_in mid l) w.0) w.1)

    pub stood : (o : Option (List ℕ)) (v : Verdict) → LakeIn mid alts n l o → Stood m s out (record { symbol = l; alt = o; verdict = v })
    stood o v w = record { clear = st.clear; plain = record { holds = st.worked.plain; sound = clear-sound m s st.clear }; alt = alt_of o w }

  module _ (out : List ℕ) (a : LakeAlt) (st : Stood m s out a) where
    -- the grammar's own table
    module _ (t : List ℕ) (own : Holds t g) where
      pub same-symbols : symbol_count out ≡ symbol_count t
      same-symbols = symbols-of out _ st.plain.holds ∙ sym (symbols-of t g own)

      pub within : (set : List ℕ) → a.alt ≡ Some set → a.symbol < symbol_count t
      unfolding prepared prepared_by
      within set h =
          let u : AltOf p a.symbol (Some set) = subst (AltOf p a.symbol) h st.alt in
          omega (arith, symbols-of t g own, ltb-true a.symbol (length p.grammar.names) (and_left (ltb a.symbol (length p.grammar.names)) _ u.0))

    module _ (i cs : List ℕ) (q : ℕ) where
      abbrev l : ℕ
      l = a.symbol

      by-checks : (x y : Maybe Refusal) → refuses_room p.bodies i cs ≡ x → refuse_if (not (is_there p i l q)) 14 0 ≡ y → asked_after (x ▸ y) p i cs l q ≡ asked_of p i cs l q
      by-checks x y e f = sym (ap₂ (λ (o r : Maybe Refusal). asked_after (o ▸ r) p i cs l q) e f)

      pub long : 65535 < length i → lent (not_asked (VerdictRefused 9 65535)) cs ≡ asked_of p i cs l q
      unfolding prepared prepared_by
      long h = by-checks (some (refusal 9 65535)) _ (input-long out i cs (symbol_count out) refl g (plain_of g) st.plain h) refl

      module _ (n need : ℕ) (e : n ≡ symbol_count out) (short : length i ≤ 65535) (f : need ≡ n * (length i + 1)) where
        pub few : length cs < need → lent (not_asked (VerdictRefused 10 need)) cs ≡ asked_of p i cs l q
        unfolding prepared prepared_by
        few h = by-checks (some (refusal 10 need)) _ (input-few out i cs n e g (plain_of g) st.plain short need f h) refl

        module _ (room : need ≤ length cs) where
          input_none : refuses_room p.bodies i cs ≡ none
          unfolding prepared prepared_by
          input_none = enough out i cs n e g (plain_of g) st.plain short (omega (arith, room, f))

          not_there : is_there p i l q ≡ false → lent (not_asked (VerdictRefused 14 0)) cs ≡ asked_of p i cs l q
          not_there h = by-checks none (some (refusal 14 0)) input_none (ap (λ (b : Bool). refuse_if (not b) 14 0) h)

          by_parts : (b c : Bool) → is_lake_of p l ≡ b → leb q (length i) ≡ c → is_there p i l q ≡ (b && c)
          by_parts b c x y = ap₂ ◌&&◌ x y

          pub other : a.alt ≡ None → lent (not_asked (VerdictRefused 14 0)) cs ≡ asked_of p i cs l q
          other h = let u : AltOf p l None = subst (AltOf p l) h st.alt in not_there (by_parts false (leb q (length i)) u refl)

          module _ (set : List ℕ) (there : a.alt ≡ Some set) where
            asked : AltOf p l (Some set)
            asked = subst (AltOf p l) there st.alt

            pub behind : length i < q → lent (not_asked (VerdictRefused 14 0)) cs ≡ asked_of p i cs l q
            behind k = not_there (by_parts true false asked.0 (lt-leb q (length i) k))

            module _ (in-text : q ≤ length i) (new : List ℕ) (fills : Fills out i cs new) (t : List ℕ) (own : Holds t g) where
              checks : refuse_if (not (is_there p i l q)) 14 0 ≡ none
              checks = ap (λ (b : Bool). refuse_if (not b) 14 0) (by_parts true true asked.0 (le-leb q (length i) in-text))

              cells_are : new ≡ filled_by p.bodies i cs
              unfolding prepared prepared_by
              cells_are = fills.are g (plain_of g) st.plain (clear-loop m s st.clear)

              count-is : symbol_count t ≡ length p.bodies
              unfolding prepared prepared_by
              count-is = sym (same-symbols t own) ∙ bodies-are out g (plain_of g) st.plain.holds

              way-all : (w : ℕ) → w ≡ way_in (grammar_in t) i new (symbol_count t) set l q → w ≡ way_in p.grammar i (filled_by p.bodies i cs) (length p.bodies) (lake_alt p.analysis l) l q
              unfolding prepared prepared_by
              way-all w y =
                  way-is t g own (clear-good m s st.clear).proper i new (symbol_count t) set l q w y
                  ∙ ap (λ (z : List ℕ). way_in g i new (symbol_count t) z l q) asked.1
                  ∙ ap₂ (λ (cs : List ℕ) (k : ℕ). way_in g i cs k (lake_alt (analysis g) l) l q) cells_are count-is

              pub answered : (r : Way) → r ≡ way_of (way_in (grammar_in t) i new (symbol_count t) set l q) → lent (record { way = r; verdict = Accepted }) new ≡ asked_of p i cs l q
              answered r z =
                  ap₂ (λ (v : Way) (c : List ℕ). lent (record { way = v; verdict = Accepted }) c) (z ∙ ap way_of (way-all _ refl)) cells_are ∙ by-checks none none input_none checks

-- ── as the code has it ──
-- the verdict of a text that is refused, handed on
pub looked-refused : {m : Mode} {s out : List ℕ} {l : ℕ} {c : Counted} {o : Option (List ℕ)} → c ≡ read_of m s → is_refused c.verdict ≡ true
    → Looked m s out l (record { symbol = l; alt = o; verdict = c.verdict })
looked-refused f h = record { answer = ap (λ (c : Counted). c.verdict) f; symbol = refl; stood = λ z. absurd (true≢false (sym h ∙ z)) }

pub looked-accepted : {m : Mode} {s t mid : List ℕ} {ms : List Bool} {sets : List (List ℕ)} {eps : List Bool} {succ alts : List (List ℕ)} {out : List ℕ} {rounds : ℕ} {c : Counted}
    → Ready m s t mid ms sets eps succ alts out c rounds → is_refused c.verdict ≡ false → (n l : ℕ) → n ≡ symbol_count out → (o : Option (List ℕ)) → LakeIn mid alts n l o
    → Looked m s out l (record { symbol = l; alt = o; verdict = c.verdict })
looked-accepted {m} {s} {t} {mid} {ms} {sets} {eps} {succ} {alts} {out} {rounds} {c} w h n l e o i = record {
  answer = ap (λ (c : Counted). c.verdict) w.answer;
  symbol = refl;
  stood = λ z. stood m s t mid ms sets eps succ alts out rounds (w.stands h) n l e o c.verdict i;
}

-- the same answer beside the same cells
pub same : {r r' : LakeWay} {cs : List ℕ} {x : Lent} → r ≡ r' → lent r' cs ≡ x → lent r cs ≡ x
same {cs = cs} e h = ap (λ (r : LakeWay). lent r cs) e ∙ h
