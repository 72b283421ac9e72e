-- `card::scanning::scan_records` meets its contract: a step for each record leads on, and at the end the pass tells what the rules say of all records.
-- Assumes nothing.
use mathlib.Core.Path.{◌≡◌, ap, ◌∙◌}
use Rattle.std.proofs.Common.{rules, map, ◌+◌}
use Rattle.std.specs.Prelude.{Ok, Err}
use Rattle.hall.specs.Says.{refusal_says}
use Rattle.hall.proofs.OneToOne.{no_refusal_says_0}
use Rattle.card.specs.Pass.{bare}
use Rattle.card.specs.Says.{pass_says, scan_says}
use Rattle.card.proofs.PassSoFar.{leads_at_first, leads_on, leads_to_scan, wrong_to_scan}
use Rattle.card.proofs.KeptRecords.{record_here, records_length}
use Rattle.card.proofs.scanning.scan_records.Goals as goal

pub returns-in_err-pass : goal.returns-in_err-pass
returns-in_err-pass g c =
    let cards = map g.R.Record.says c.args.records.now in
    let wrong = c.in_err-pass.field-0.0 in
    let told : c.from_residual.result ≡ Err wrong = search rules in
    let leads = leads_at_first cards c.args.key.0 (bare (refusal_says wrong.refusal) wrong.place) c.in_err-pass.ensures in
    ap scan_says told ∙ wrong_to_scan cards c.args.key.0 0 (refusal_says wrong.refusal) wrong.place (no_refusal_says_0 wrong.refusal) leads

pub loop-index-init : goal.loop-index-init
loop-index-init g c = leads_at_first _ _ _ c.in_ok-pass.ensures

pub returns-in_err-pass-2 : goal.returns-in_err-pass-2
returns-in_err-pass-2 g c =
    let cards = map g.R.Record.says c.args.records.now in
    let i = c.loop-index.index in
    let wrong = c.in_err-pass-2.field-0.0 in
    let told : c.from_residual-in_err-pass-2.result ≡ Err wrong = search rules in
    let here = record_here g.R.Record.says c.args.records.now i _ _ c.loop-index-test.true c.index-records-index.is c.band.ensures in
    let leads = leads_on cards c.args.key.0 (pass_says (Ok c.loop-index.pass)) i c.loop-index.invariant (bare (refusal_says wrong.refusal) wrong.place) _ here c.in_err-pass-2.ensures in
    ap scan_says told ∙ wrong_to_scan cards c.args.key.0 (i + 1) (refusal_says wrong.refusal) wrong.place (no_refusal_says_0 wrong.refusal) leads

pub loop-index-preserved : goal.loop-index-preserved
loop-index-preserved g c =
    let cards = map g.R.Record.says c.args.records.now in
    let i = c.loop-index.index in
    let here = record_here g.R.Record.says c.args.records.now i _ _ c.loop-index-test.true c.index-records-index.is c.band.ensures in
    leads_on cards c.args.key.0 (pass_says (Ok c.loop-index.pass)) i c.loop-index.invariant (pass_says (Ok c.in_ok-pass-2.pass)) _ here
    c.in_ok-pass-2.ensures

pub returns : goal.returns
returns g c =
    c.told.ensures
    ∙ leads_to_scan (map g.R.Record.says c.args.records.now) c.args.key.0 (pass_says (Ok c.loop-index.pass)) c.loop-index.index c.loop-index.invariant (rw (records_length g.R.Record.says c.args.records.now) c.loop-index-test.false)
