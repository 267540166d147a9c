-- The record is read; a route is set or removed, and its answer is that of the plain ledger.
use Rattle.std.proofs.lemmas.Result.{err_from_is_err_and}
use Rattle.records.proofs.Promise.{reads_as}
use Rattle.ledger.proofs.Applying.{applies_faulty, can_announce, announcement, can_withdraw, withdrawal}
use Rattle.ledger.proofs.apply_record.Goals as goal

pub returns-in_err-address-clause-applied : goal.returns-in_err-address-clause-applied
returns-in_err-address-clause-applied c =
    let e = err_from_is_err_and c.from_residual.result c.from_residual.ensures.1 in
    rw (e.1, e.2) (applies_faulty _ _ c.requires _ c.in_err-address.ensures)

pub announce-requires : goal.announce-requires
announce-requires c =
    can_announce _ _ c.requires _ _ _ c.path_of.ensures _ (reads_as c.in-Announces.is c.in_ok-address.ensures)

pub withdraw-requires : goal.withdraw-requires
withdraw-requires c =
    can_withdraw _ _ c.requires _ _ _ c.path_of-in-Withdraws.ensures (reads_as c.in-Withdraws.is c.in_ok-address.ensures)

pub returns-in-Announces-clause-applied : goal.returns-in-Announces-clause-applied
returns-in-Announces-clause-applied c =
    rw c.or.ensures
    (announcement _ _ c.requires _ _ _ c.path_of.ensures _ (reads_as c.in-Announces.is c.in_ok-address.ensures) _ _ c.announce.ensures.announced)

pub returns-in-Withdraws-clause-applied : goal.returns-in-Withdraws-clause-applied
returns-in-Withdraws-clause-applied c =
    rw c.or-in-Withdraws.ensures
    (withdrawal _ _ c.requires _ _ _ c.path_of-in-Withdraws.ensures (reads_as c.in-Withdraws.is c.in_ok-address.ensures) _ _ c.withdraw.ensures.withdrawn)
