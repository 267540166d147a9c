-- `records::read_record` meets its contract: once the fields are fetched and the mask has said whether a bit is set behind the
-- length, each return is what the laws of Reading give for the tests that led there. Assumes nothing.
use Rattle.std.proofs.Common.{inl, inr, arith, rules}
use Rattle.rules.specs.Numbers.{ipv4, width}
use Rattle.refusals.specs.declared.Refusal.TheVariants.{BadPrefixLength, StrayBit, BadAction, BadHop}
use Rattle.records.proofs.Masks.{kept_clear, changed_stray}
use Rattle.records.proofs.Reading.{fields_with, Clean, too_long, stray, high_hop, no_withdrawals, no_action, withdrawn_hop, uses, Fetched, fetched, faults, answers_announces, answers_withdraws}
use Rattle.records.proofs.read_record.Goals as goal
use Rattle.records.proofs.read_record.Goals.{After-from-hop, Else-address-mask}

-- what is known once the fields are fetched ..
fields : (c : After-from-hop) → Fetched c.args.fields.now c.from_be_bytes-address.result c.from-size.result c.from-hop.result
fields c =
    fetched _ _ _ _ (omega arith) (omega (arith, c.from_be_bytes-address.type_inv)) c.from_be_bytes-address.ensures c.from-size.ensures
    (omega (arith, c.from-hop.ensures, c.from_be_bytes.ensures))

-- .. and once the mask has changed nothing
clean : (c : Else-address-mask) → Fetched c.args.fields.now c.from_be_bytes-address.result c.from-size.result c.from-hop.result
    → Clean (width ipv4) (fields_with c.args.fields.now c.from_be_bytes-address.result c.from-size.result c.from-hop.result)
clean c k =
    let within = c.if-size-gt-WIDTH.false in
    record { within = within; clear = kept_clear _ _ k.fits within c.mask.ensures c.if-address-mask.false }

-- rule 4
pub returns-then-size-gt-WIDTH : goal.returns-then-size-gt-WIDTH
returns-then-size-gt-WIDTH c = faults (fields (goal.at.returns-then-size-gt-WIDTH c).After-from-hop) BadPrefixLength (search rules) (too_long c.if-size-gt-WIDTH.true)

-- rule 5
pub returns-then-address-mask : goal.returns-then-address-mask
returns-then-address-mask c =
    let k = fields (goal.at.returns-then-address-mask c).After-from-hop in
    faults k StrayBit (search rules) (stray c.if-size-gt-WIDTH.false (changed_stray _ _ k.fits c.if-size-gt-WIDTH.false c.mask.ensures c.if-address-mask.true))

-- an announcement: rule 7, or no fault
pub returns-then-hop-gt-HIGHEST_HOP : goal.returns-then-hop-gt-HIGHEST_HOP
returns-then-hop-gt-HIGHEST_HOP c =
    let k = fields (goal.at.returns-then-hop-gt-HIGHEST_HOP c).After-from-hop in
    faults k BadHop (search rules)
    (high_hop (clean (goal.at.returns-then-hop-gt-HIGHEST_HOP c).Else-address-mask k) c.if-action-eq-ANNOUNCE.true (omega (arith, c.if-hop-gt-HIGHEST_HOP.true)))

pub returns-then-action-eq-ANNOUNCE : goal.returns-then-action-eq-ANNOUNCE
returns-then-action-eq-ANNOUNCE c =
    let k = fields (goal.at.returns-then-action-eq-ANNOUNCE c).After-from-hop in
    answers_announces k (clean (goal.at.returns-then-action-eq-ANNOUNCE c).Else-address-mask k) c.if-action-eq-ANNOUNCE.true (omega (arith, c.if-hop-gt-HIGHEST_HOP.false))

-- any other action: rules 6 and 7, or no fault
pub returns-then-not-withdrawals : goal.returns-then-not-withdrawals
returns-then-not-withdrawals c =
    let k = fields (goal.at.returns-then-not-withdrawals c).After-from-hop in
    let good = clean (goal.at.returns-then-not-withdrawals c).Else-address-mask k in
    let other = c.if-action-eq-ANNOUNCE.false in
    faults k BadAction (search rules)
    (elim c.then-not-withdrawals.either [
      | inl none ↦ no_withdrawals good other (uses c.args.withdrawals none)
      | inr none ↦ no_action good other (uses c.args.withdrawals none.0) none.1
    ])

pub returns-then-hop-ne-NO_HOP : goal.returns-then-hop-ne-NO_HOP
returns-then-hop-ne-NO_HOP c =
    let k = fields (goal.at.returns-then-hop-ne-NO_HOP c).After-from-hop in
    faults k BadHop (search rules)
    (withdrawn_hop (clean (goal.at.returns-then-hop-ne-NO_HOP c).Else-address-mask k) c.if-action-eq-ANNOUNCE.false (uses c.args.withdrawals c.if-not-withdrawals.false)
    c.if-action-ne-WITHDRAW.false c.if-hop-ne-NO_HOP.true)

pub returns : goal.returns
returns c =
    let k = fields (goal.at.returns c).After-from-hop in
    answers_withdraws k (clean (goal.at.returns c).Else-address-mask k) c.if-action-eq-ANNOUNCE.false
    (uses c.args.withdrawals c.if-not-withdrawals.false) c.if-action-ne-WITHDRAW.false c.if-hop-ne-NO_HOP.false
