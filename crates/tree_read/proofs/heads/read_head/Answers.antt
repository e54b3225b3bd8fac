use Rattle.std.proofs.Common.{false}
use Rattle.write_leaves.specs.steps.Printed.{called}
use Rattle.tree_read.specs.laws.Heads.{headed, before_no_name, no_name, before_no_start, no_start, before_no_end, no_end, no_text, no_chars, no_children}
use Rattle.tree_read.proofs.heads.read_head.Goals as goal

pub returns-in_err-a-clause-head : goal.returns-in_err-a-clause-head
returns-in_err-a-clause-head c = rw c.from_residual.ensures (λ d. before_no_name (called false c.args.t.now) c.args.symbols c.args.input.now c.args.json.now d c.args.at
    c.in_err-a.ensures.place)

pub returns-in_err-name-clause-head : goal.returns-in_err-name-clause-head
returns-in_err-name-clause-head c = rw c.from_residual-in_err-name.ensures (λ d. no_name (called false c.args.t.now) c.args.symbols c.args.input.now c.args.json.now d c.args.at
    (rw (← c.in_ok-a.ensures.place) c.in_err-name.ensures))

pub returns-in_err-b-clause-head : goal.returns-in_err-b-clause-head
returns-in_err-b-clause-head c = rw c.from_residual-in_err-b.ensures (λ d. before_no_start (called false c.args.t.now) c.args.symbols c.args.input.now c.args.json.now d c.args.at
    (rw (← c.in_ok-a.ensures.place, ← c.in_ok-name.ensures.1) c.in_err-b.ensures.place))

pub returns-in_err-start-clause-head : goal.returns-in_err-start-clause-head
returns-in_err-start-clause-head c = rw c.from_residual-in_err-start.ensures (λ d. no_start (called false c.args.t.now) c.args.symbols c.args.input.now c.args.json.now d c.args.at
    (rw (← c.in_ok-a.ensures.place, ← c.in_ok-name.ensures.1, ← c.in_ok-b.ensures.place) c.in_err-start.ensures))

pub returns-in_err-c-clause-head : goal.returns-in_err-c-clause-head
returns-in_err-c-clause-head c = rw c.from_residual-in_err-c.ensures (λ d. before_no_end (called false c.args.t.now) c.args.symbols c.args.input.now c.args.json.now d c.args.at
    (rw (← c.in_ok-a.ensures.place, ← c.in_ok-name.ensures.1, ← c.in_ok-b.ensures.place, ← c.in_ok-start.ensures.1) c.in_err-c.ensures.place))

pub returns-in_err-end-clause-head : goal.returns-in_err-end-clause-head
returns-in_err-end-clause-head c = rw c.from_residual-in_err-end.ensures (λ d. no_end (called false c.args.t.now) c.args.symbols c.args.input.now c.args.json.now d c.args.at
    (rw (← c.in_ok-a.ensures.place, ← c.in_ok-name.ensures.1, ← c.in_ok-b.ensures.place, ← c.in_ok-start.ensures.1, ← c.in_ok-c.ensures.place) c.in_err-end.ensures))

pub returns-in_err-d-clause-head : goal.returns-in_err-d-clause-head
returns-in_err-d-clause-head c = rw c.from_residual-in_err-d.ensures (λ d. no_text (called false c.args.t.now) c.args.symbols c.args.input.now c.args.json.now d c.args.at
    (rw (← c.in_ok-a.ensures.place, ← c.in_ok-name.ensures.1, ← c.in_ok-b.ensures.place, ← c.in_ok-start.ensures.1, ← c.in_ok-c.ensures.place, ← c.in_ok-end.ensures.1) c.in_err-d.ensures.place))

pub returns-in_err-e-clause-head : goal.returns-in_err-e-clause-head
returns-in_err-e-clause-head c = rw c.from_residual-in_err-e.ensures (λ d. no_chars (called false c.args.t.now) c.args.symbols c.args.input.now c.args.json.now d c.args.at
    (rw (
      ← c.in_ok-a.ensures.place,
      ← c.in_ok-name.ensures.1,
      ← c.in_ok-b.ensures.place,
      ← c.in_ok-start.ensures.1,
      ← c.in_ok-c.ensures.place,
      ← c.in_ok-end.ensures.1,
      ←
          c.in_ok-d.ensures.place,
      ← c.in_ok-start.ensures.0,
      ← c.in_ok-end.ensures.0,
    ) c.in_err-e.ensures))

pub returns-in_err-place-clause-head : goal.returns-in_err-place-clause-head
returns-in_err-place-clause-head c = rw c.from_residual-in_err-place.ensures (λ d. no_children (called false c.args.t.now) c.args.symbols c.args.input.now c.args.json.now d c.args.at
    (rw (
      ← c.in_ok-a.ensures.place,
      ← c.in_ok-name.ensures.1,
      ← c.in_ok-b.ensures.place,
      ← c.in_ok-start.ensures.1,
      ← c.in_ok-c.ensures.place,
      ← c.in_ok-end.ensures.1,
      ←
          c.in_ok-d.ensures.place,
      ← c.in_ok-start.ensures.0,
      ← c.in_ok-end.ensures.0,
      ← c.in_ok-e.ensures,
    ) c.in_err-place.ensures.place))

pub returns-clause-head : goal.returns-clause-head
returns-clause-head c = headed (called false c.args.t.now) c.args.symbols c.args.input.now c.args.json.now c.args.at c.in_ok-a.a c.in_ok-name.name.value c.in_ok-b.b
    c.in_ok-start.start.value c.in_ok-c.c c.in_ok-end.end.value c.in_ok-d.d c.in_ok-e.e
    c.in_ok-name.name.place c.in_ok-start.start.place c.in_ok-end.end.place c.in_ok-place.place
    c.in_ok-a.ensures.place c.in_ok-name.ensures c.in_ok-b.ensures.place c.in_ok-start.ensures c.in_ok-c.ensures.place c.in_ok-end.ensures c.in_ok-d.ensures.place
    c.in_ok-e.ensures c.in_ok-place.ensures.place
