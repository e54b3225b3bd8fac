-- A node list as JSON text and back, from the table that holds an accepted grammar (02, par. 1). Assumes nothing.
use Prim.Native.Nat.{ℕ, ◌<◌}
use Rattle.std.specs.Prelude.{◌≡◌, Bool, true, false, ltb, length}
use Rattle.std.proofs.Math.Path.{refl, sym}
use Rattle.std.proofs.Common.{ap, ap₂, ◌∙◌, ltb-true, ltb-false}
use mathlib.Core.List.{List}
use Rattle.std.proofs.Math.Option.{Option, none, some}
use Rattle.read_tokens.specs.declared.Mode.{Mode}
use Rattle.read_tokens.specs.Bounds.{input_bound}
use Rattle.read_tokens.specs.laws.Bytes.{Bytes}
use Rattle.grammar.specs.Numbers.{numbered}
use Rattle.grammar.specs.Refusal.{Refusal, refuse_if, refuse_at, ◌▸◌}
use Rattle.grammar_table.specs.Holds.{Holds}
use Rattle.grammar_table.specs.Table.{symbol_count}
use Rattle.read_syntax.specs.Reading.{rules_of}
use Rattle.match_meaning.specs.Meaning.{Node}
use Rattle.match_list.specs.Nodes.{nodes_at, room_of}
use Rattle.match_ask.specs.laws.Asks.{symbols-of}
use Rattle.write_leaves.specs.steps.Printed.{called}
use Rattle.prepare.specs.declared.Counted.{Counted}
use Rattle.prepare.specs.declared.Verdict.{Verdict}
use Rattle.prepare.specs.Prepare.{prepared, prepared_by, refuses}
use Rattle.prepare.specs.Reads.{verdict_of, is_refused, read_of}
use Rattle.prepare.specs.laws.Reads.{split}
use Rattle.write_put.specs.declared.Written.{Written}
use Rattle.write_put.specs.steps.Puts.{not_written}
use Rattle.tree_list.specs.Preorder.{bad_node, whole}
use Rattle.tree_list.specs.laws.Bad.{good-parts}
use Rattle.tree_json.specs.Json.{json_text}
use Rattle.tree_json.specs.Reading.{parsed}
use Rattle.tree_json.proofs.laws.Same.{text_same, parsed-same}
use Rattle.tree_write.specs.steps.Lists.{list_checks, room_check, wrote_by, room_after, WroteList}
use Rattle.tree_read.specs.declared.Parsed.{Parsed}
use Rattle.tree_read.specs.steps.Puts.{parsed_by, words_by}
use Rattle.tree_read.specs.steps.Lists.{not_read, ReadList}
use Rattle.gurkenmond.specs.Answers.{verdict_says}
use Rattle.gurkenmond.specs.Calls.{write_after, SaysText, symbol_at, json_of, refuses_list, refuses_length, write_json_of}
use Rattle.gurkenmond.specs.Calls.{Parsing, parsing, list_in, parse_after, read_in, refuses_read, read_json_of, SaysParsed}
use Rattle.gurkenmond.specs.laws.Verdicts.{handed, at_none}
use Rattle.gurkenmond.specs.laws.Names.{named}
use Rattle.gurkenmond.specs.laws.Writes.{told, says-by, refused-by}

-- what was written in 01's terms
by-checks : (o : Option Refusal) (w old : List ℕ) → told (wrote_by o w) (room_after o w old) ≡ write_after o w old
unfolding verdict_of
by-checks none w old = refl
by-checks (some x) w old = refl

-- what was read in 01's terms
abbrev heard : Parsed → List ℕ → Parsing
heard r ws = parsing r.nodes (verdict_says r.verdict) ws

parsed-by : (r : Parsed) (ws : List ℕ) (w : Parsing) → heard r ws ≡ w → SaysParsed r ws w
parsed-by r ws w e = (ap (λ (x : Parsing). x.nodes) e, ap (λ (x : Parsing). x.verdict) e, ap (λ (x : Parsing). x.words) e)

-- the same answer says the same
pub as-parsed : {r r' : Parsed} {ws : List ℕ} {w : Parsing} → r ≡ r' → SaysParsed r' ws w → SaysParsed r ws w
as-parsed e s = (ap (λ (x : Parsed). x.nodes) e ∙ s.0, ap (λ (x : Parsed). verdict_says x.verdict) e ∙ s.1, s.2)

-- ── written ──
module _ (m : Mode) (g s ws old new : List ℕ) where
  pub json-refuses : (c : Counted) → c ≡ read_of m g → is_refused c.verdict ≡ true → new ≡ old → SaysText (not_written c.verdict) new (write_json_of m g s ws old)
  unfolding write_json_of
  json-refuses c q h same =
      let w : List ℕ = json_of (prepared m g) s ws in
      refused-by m g old new c q h same (write_json_of m g s ws)
      (λ r e. sym (ap (λ (o : Option Refusal). write_after ((o ▸ refuses_list (prepared m g) s ws) ▸ room_check w old) w old) e))

module _ (m : Mode) (g s : List ℕ) (clear : refuses m g ≡ none) (b : Bytes g) (t : List ℕ) (h : Holds t (numbered (rules_of m g))) where
  abbrev R : ℕ
  R = length (prepared m g).grammar.names

  count : symbol_count t ≡ R
  unfolding prepared prepared_by
  count = symbols-of t (numbered (rules_of m g)) h

  -- the names that the table has are the grammar's
  same_names : (r : ℕ) → r < R → called false t r ≡ symbol_at (prepared m g) r
  unfolding prepared prepared_by
  same_names r l = (named m g b t r clear h l).0

  -- ── a list ──
  module _ (ws old new : List ℕ) (r : Written) where
    -- as the table's names say it, and as the grammar's
    abbrev by-table : List ℕ
    by-table = json_text (called false t) s (nodes_at ws 0 (room_of ws))

    abbrev by_names : List ℕ
    by_names = json_of (prepared m g) s ws

    same_text : list_checks R s ws ≡ none → by-table ≡ by_names
    same_text e =
        text_same (called false t) (symbol_at (prepared m g)) R same_names s (whole (length s)) 0 (nodes_at ws 0 (room_of ws))
        (good-parts R (length s) ws (at_none 15 (bad_node R (length s) ws) (split (refuses_length s) (refuse_at 15 (bad_node R (length s) ws)) e).1)).list

    go : (o : Option Refusal) → list_checks R s ws ≡ o → write_after (o ▸ room_check by-table old) by-table old ≡ write_after (o ▸ room_check by_names old) by_names old
    go none e = ap (λ (x : List ℕ). write_after (room_check x old) x old) (same_text e)
    go (some x) e = refl

    in-turn : write_after (list_checks R s ws ▸ room_check by_names old) by_names old ≡ write_json_of m g s ws old
    unfolding write_json_of
    in-turn = sym (ap (λ (o : Option Refusal). write_after ((o ▸ refuses_list (prepared m g) s ws) ▸ room_check by_names old) by_names old) clear)

    pub json-puts : WroteList (list_checks (symbol_count t) s ws) by-table old new r → SaysText r new (write_json_of m g s ws old)
    json-puts p =
        says-by r new (write_json_of m g s ws old)
        (ap₂ told p.answer p.room ∙ by-checks (list_checks (symbol_count t) s ws ▸ room_check by-table old) by-table old
        ∙ ap (λ (k : ℕ). write_after (list_checks k s ws ▸ room_check by-table old) by-table old) count
        ∙ go (list_checks R s ws) refl ∙ in-turn)

  -- ── a text ──
  module _ (js old new : List ℕ) (r : Parsed) where
    same-list : parsed (called false t) (symbol_count t) s js ≡ read_in (prepared m g) s js
    same-list =
        ap (λ (k : ℕ). parsed (called false t) k s js) count ∙ parsed-same (called false t) (symbol_at (prepared m g)) R same_names s js

    parses : (o : Option (List Node)) → parsing (parsed_by o old).nodes (verdict_says (parsed_by o old).verdict) (words_by o old) ≡ parse_after (refuses_read o old) (list_in o) old
    parses none = refl
    parses (some ns) = by-room (ltb (room_of old) (length ns)) refl
      where
        by-room : (b : Bool) → ltb (room_of old) (length ns) ≡ b
            → parsing (parsed_by (some ns) old).nodes (verdict_says (parsed_by (some ns) old).verdict) (words_by (some ns) old)
            ≡ parse_after (refuses_read (some ns) old) ns old
        by-room true e = rw e
        by-room false e = rw e

    abbrev said : Option (List Node)
    said = read_in (prepared m g) s js

    pub json-reads : ReadList s (parsed (called false t) (symbol_count t) s js) old new r → SaysParsed r new (read_json_of m g s js old)
    unfolding read_json_of
    json-reads p = parsed-by r new (read_json_of m g s js old) (by_length (ltb input_bound (length s)) refl ∙ after)
      where
        after : parse_after (refuses_length s ▸ refuses_read said old) (list_in said) old ≡ read_json_of m g s js old
        after = sym (ap (λ (x : Option Refusal). parse_after ((x ▸ refuses_length s) ▸ refuses_read said old) (list_in said) old) clear)

        by_length : (b : Bool) → ltb input_bound (length s) ≡ b → heard r new ≡ parse_after (refuses_length s ▸ refuses_read said old) (list_in said) old
        by_length true e =
            let w = p.long (ltb-true input_bound (length s) e) in
            ap₂ heard w.0 w.1 ∙ sym (ap (λ (c : Bool). parse_after (refuse_if c 9 input_bound ▸ refuses_read said old) (list_in said) old) e)
        by_length false e =
            let w = p.within (ltb-false input_bound (length s) e) in
            ap₂ heard w.0 w.1 ∙ parses (parsed (called false t) (symbol_count t) s js)
            ∙ ap (λ (x : Option (List Node)). parse_after (refuses_read x old) (list_in x) old) same-list
            ∙ sym (ap (λ (c : Bool). parse_after (refuse_if c 9 input_bound ▸ refuses_read said old) (list_in said) old) e)

-- ── a text of a refused grammar ──
module _ (m : Mode) (g s js old new : List ℕ) where
  pub read-refuses : (c : Counted) → c ≡ read_of m g → is_refused c.verdict ≡ true → new ≡ old → SaysParsed (not_read c.verdict) new (read_json_of m g s js old)
  unfolding read_json_of verdict_of
  read-refuses c q h same =
      let w = handed m g c q h in
      let o : Option (List Node) = read_in (prepared m g) s js in
      parsed-by (not_read c.verdict) new (read_json_of m g s js old)
      (ap₂ (λ (v : Verdict) (n : List ℕ). heard (not_read v) n) w.2 same
      ∙ sym (ap (λ (x : Option Refusal). parse_after ((x ▸ refuses_length s) ▸ refuses_read o old) (list_in o) old) w.1))
