-- THE DEMANDS, one theorem each: `reading`, `demand-1`, `demand-2`, `demand-3`, `own-text-back`; `json-back` is in Json.antt, `records` in Records.antt. Assumes nothing.
use Rattle.std.specs.Prelude.{ℕ, min, ◌≤◌, ◌≡◌, not, ◌&&◌, List, [], ◌∷◌, ◌↔◌, length, get_or, ltb}
use Rattle.std.proofs.Math.Path.{refl, ap₂}
use Rattle.std.proofs.Common.{sym, ap, ◌∙◌, subst, inl}
use Rattle.std.proofs.Math.Option.{Option, none}
use Rattle.std.proofs.Math.Dec.{leb}
use Rattle.read_tokens.specs.declared.Mode.{Mode}
use Rattle.read_tokens.specs.declared.Mode.TheVariants.{Plain}
use Rattle.read_tokens.specs.Token.{name}
use Rattle.read_tokens.specs.Bounds.{text_bound}
use Rattle.read_tokens.specs.laws.Bytes.{bytes_of}
use Rattle.read_tokens.specs.laws.Bytes.{Bytes as IsBytes}
use Rattle.grammar.specs.Exp.{Rule}
use Rattle.grammar.specs.Refusal.{Refusal, refuse_if, ◌▸◌}
use Rattle.grammar.specs.SameGrammar.{SameGrammar}
use Rattle.read_syntax.specs.Grammar.{GrammarOf}
use Rattle.read_syntax.proofs.laws.Grammars.{one-grammar}
use Rattle.lake_rules.specs.Analysis.{is_expression}
use Rattle.lake_plain.specs.Plain.{plain_rules}
use Rattle.write_rules.specs.Writing.{symbol_text, text}
use Rattle.prepare.specs.Prepare.{Prepared, prepared, refuses}
use Rattle.prepare.specs.Reads.{read_by, read_of}
use Rattle.prepare.specs.laws.Reads.{split}
use Rattle.gurkenmond.specs.Calls.{sets_by, sets_of, lakes_by, cannot_skip_of, Matching, refuses_input, match_after, match_of, is_lake_at, lake_after, lake_of}
use Rattle.gurkenmond.specs.Calls.{Writing, write_after, write_by, write_own_of, write_plain_of, is_symbol, symbol_name_of}
use Rattle.gurkenmond.specs.Calls.{refuses_length, refuses_list, json_of, count_bound, write_json_of, list_in, parse_after, read_in, refuses_read, read_json_of}
use Rattle.gurkenmond.specs.Calls.{refuses_records, summarise_after, summarise_of}
use Rattle.demands.specs.Rows.{Row6, Row7, Row8}
use Rattle.demands.specs.Checks.{NoRow, text_checks, write_checks, own_text, plain_text}
use Rattle.demands.specs.Meets.{Tabled, Meets, MeetsLake}
use Rattle.demands.specs.Demands.{Reading, Demand1, Demand2, Wrote, PlainFor, Demand3, SameCalls, OwnTextBack}
use Rattle.demands.proofs.laws.Chain.{silent, accepts, none-of-both}
use Rattle.demands.proofs.laws.Refusals.{one-to-eight, write-chain}
use Rattle.demands.proofs.laws.Refusals.{reading as grammar-of-text}
use Rattle.demands.proofs.laws.Refused.{match-refused, match-passes}
use Rattle.demands.proofs.laws.Cells.{cells-filled}
use Rattle.demands.proofs.laws.Meets.{table, match-meets, match-meets-only}
use Rattle.demands.proofs.laws.MeetsLake.{lake-meets, lake-meets-only}
use Rattle.demands.proofs.laws.Exactly.{read-exactly, cannot-skip-exactly, sets-exactly, match-exactly, lake-exactly, own-exactly, plain-exactly, name-exactly}
use Rattle.demands.proofs.laws.Json.{json-exactly, read-json-exactly, wrote_by}
use Rattle.demands.proofs.laws.Records.{records-exactly, spot-exactly}
use Rattle.demands.proofs.laws.SameGrammar.{same-grammar}
use Rattle.demands.proofs.laws.Back.{match_back, plain_back, own_back, prepared-back, own-accepted-back}

pub reading : Reading
reading = grammar-of-text

-- ── 1 ──
pub demand-1 : Demand1
demand-1 = record {
  read = read-exactly;
  sets = sets-exactly;
  cannot-skip = cannot-skip-exactly;
  match = match-exactly;
  cells-untouched = λ m t s cs ws f. ap (λ (x : Matching). x.cells) (match-refused m t s cs ws f);
  cells-filled =
      λ m t s cs ws z.
      let w = match-passes m t s cs z in
      subst (Tabled m t s cs) (sym (cells-filled m t s cs ws w.0 w.1 w.2)) (table m t s cs ws z);
  lake = lake-exactly;
  own = own-exactly;
  plain = plain-exactly;
  name = name-exactly;
  json = json-exactly;
  read-json = λ m t s js ws b. read-json-exactly m t b s js ws;
  summary = records-exactly;
  spot = spot-exactly;
}

-- ── 2 ──
pub demand-2 : Demand2
demand-2 = record {
  match = λ m t s cs ws x. (match-meets-only m t s cs ws, λ e. subst (Meets m t s cs ws) (sym e) (match-meets m t s cs ws));
  lake = λ m t s cs l q x. (lake-meets-only m t s cs l q, λ e. subst (MeetsLake m t s cs l q) (sym e) (lake-meets m t s cs l q));
}

-- ── 3 ──
-- no row holds: the text is accepted, and what is written stands in the room
module _ (m : Mode) (t w out : List ℕ) (z : NoRow (write_checks m t w out)) where
  clear : (refuses m t ▸ refuse_if (ltb (length out) (length w)) 13 (length w)) ≡ none
  clear = accepts (write-chain m t w out) z

  accepted : refuses m t ≡ none
  accepted = (split (refuses m t) (refuse_if (ltb (length out) (length w)) 13 (length w)) clear).0

  wrote : (x : Writing) → x ≡ write_by (refuses m t) w out → Wrote x w
  wrote x e = wrote_by x w out (e ∙ ap (λ (o : Option Refusal). write_after o w out) clear)

module _ (m : Mode) (t out : List ℕ) (z : NoRow (write_checks m t (plain_text m t) out)) where
  wrote-plain : Wrote (write_plain_of m t out) (plain_text m t)
  unfolding write_plain_of
  wrote-plain = wrote m t (plain_text m t) out z (write_plain_of m t out) refl

module _ (m : Mode) (t out : List ℕ) (z : NoRow (write_checks m t (own_text m t) out)) where
  wrote-own : Wrote (write_own_of m t out) (own_text m t)
  unfolding write_own_of
  wrote-own = wrote m t (own_text m t) out z (write_own_of m t out) refl

module _ (m : Mode) (t : List ℕ) (b : IsBytes t) (ok : refuses m t ≡ none) where
  abbrev plain : List ℕ
  plain = plain_text m t

  -- both are the one answer that meets the meaning on either side
  same-meaning : (s cs ws : List ℕ) (x : Matching) → Meets Plain plain s cs ws x ↔ Meets m t s cs ws x
  same-meaning s cs ws x = (
    λ h. subst (Meets m t s cs ws) (sym (match-meets-only Plain plain s cs ws h ∙ match_back m t b ok s cs ws)) (match-meets m t s cs ws),
    λ h. subst (Meets Plain plain s cs ws) (sym (match-meets-only m t s cs ws h ∙ sym (match_back m t b ok s cs ws))) (match-meets Plain plain s cs ws),
  )

  plain-for : PlainFor m t plain
  plain-for = record { matches = same-meaning; own-again = own_back m t b ok; plain-again = plain_back m t b ok }

  -- ── the own text ──
  abbrev own : List ℕ
  own = own_text m t

  module _ (short : length own ≤ text_bound m) where
    abbrev p : Prepared
    p = prepared m t

    back : prepared m own ≡ p
    back = prepared-back m t b ok short

    clear-own : refuses m own ≡ none
    clear-own = own-accepted-back m t b ok short

    checked : refuses m own ≡ refuses m t
    checked = clear-own ∙ sym ok

    text-clear : (v : List ℕ) → refuses m v ≡ none → NoRow (text_checks m v)
    text-clear v e = (none-of-both (text_checks m v) (Row6 m v ∷ Row7 m v ∷ Row8 m v ∷ []) (silent (one-to-eight m v) e)).0

    same : (g : List Rule) → GrammarOf m t g → (h : List Rule) × GrammarOf m own h × SameGrammar g h
    same g e =
        let f : g ≡ (prepared m own).rules = one-grammar m t g p.rules e (grammar-of-text m t (text-clear t ok)) ∙ ap (λ (x : Prepared). x.rules) (sym back) in
        ((prepared m own).rules, grammar-of-text m own (text-clear own clear-own), (same-grammar g (prepared m own).rules).1 f)

    same-calls : SameCalls m t own
    unfolding read_of sets_of cannot_skip_of match_of lake_of write_own_of write_plain_of symbol_name_of write_json_of read_json_of summarise_of
    same-calls = record {
      grammar = same;
      read = ap₂ read_by checked back;
      sets = λ e. ap₂ (λ (o : Option Refusal) (x : Prepared). sets_by (o ▸ refuse_if (not (is_expression x.analysis e)) 14 0) x.analysis e) checked back;
      cannot-skip = ap₂ lakes_by checked back;
      match = λ s cs ws. ap₂ (λ (o : Option Refusal) (x : Prepared). match_after (o ▸ refuses_input x s cs) x s cs ws) checked back;
      lake =
          λ s cs l q.
          ap₂ (λ (o : Option Refusal) (x : Prepared). lake_after (o ▸ (refuses_input x s cs ▸ refuse_if (not (is_lake_at x l && leb q (length s))) 14 0)) x s cs l q) checked back;
      own = λ out. ap₂ (λ (o : Option Refusal) (x : Prepared). write_by o (text x.rules) out) checked back;
      plain = λ out. ap₂ (λ (o : Option Refusal) (x : Prepared). write_by o (text (plain_rules x.grammar x.analysis)) out) checked back;
      name =
          λ r out.
          ap₂ (λ (o : Option Refusal) (x : Prepared). write_by (o ▸ refuse_if (not (is_symbol x r)) 14 0) (symbol_text (get_or x.grammar.names r (name []))) out) checked back;
      json =
          λ s ws out.
          ap₂ (λ (o : Option Refusal) (x : Prepared).
          write_after ((o ▸ refuses_list x s ws) ▸ refuse_if (ltb (length out) (length (json_of x s ws))) 13 (min count_bound (length (json_of x s ws)))) (json_of x s ws) out) checked back;
      read-json =
          λ s js ws.
          ap₂ (λ (o : Option Refusal) (x : Prepared). parse_after ((o ▸ refuses_length s) ▸ refuses_read (read_in x s js) ws) (list_in (read_in x s js)) ws) checked back;
      summary = λ s ws rs. ap₂ (λ (o : Option Refusal) (x : Prepared). summarise_after (o ▸ refuses_records x s ws rs) x s ws rs) checked back;
    }

pub demand-3 : Demand3
demand-3 m t out b z = (plain_text m t, wrote-plain m t out z, plain-for m t (bytes_of t b) (accepted m t (plain_text m t) out z))

pub own-text-back : OwnTextBack
own-text-back m t out b z = (
  own_text m t,
  wrote-own m t out z,
  same-calls m t (bytes_of t b) (accepted m t (own_text m t) out z),
  λ l. inl (refl, (refl, l)),
)
