use Rattle.std.proofs.Common.{ℕ, Ok, Err, refl, ap, ◌∙◌, sym, subst}
use Rattle.adm_host.specs.Exits.{ExitsBy, exit_code}
use Rattle.adm_program.proofs.Doing.{exits, refused}
use Rattle.adm_program.proofs.Wording.{taken}
use Rattle.adm_program.proofs.run.run_arguments.Goals as goal

-- arguments that name an action
pub returns-in-Ok-clause-does : goal.returns-in-Ok-clause-does
returns-in-Ok-clause-does g c =
    let did = c.run_action-ended.ensures in
    let is = c.end.ensures in
    taken (g.R.Registers.held c.args.files) _ c.in-Ok.action _ c.run_action-ended.result c.end.result c.in-Ok.ensures.reads did.ok did.err did.left did.many did.untouched did.taken is.status is.remains is.reported

pub returns-in-Ok-clause-status : goal.returns-in-Ok-clause-status
returns-in-Ok-clause-status g c =
    (Ok c.in-Ok.action, c.in-Ok.ensures.reads, exits _ c.in-Ok.action _ c.run_action-ended.result c.end.result.status c.run_action-ended.ensures.ok c.end.ensures.status)

-- arguments that are a usage error
pub returns-in-Err-clause-does : goal.returns-in-Err-clause-does
returns-in-Err-clause-does g c =
    record {
      read = Err c.in-Err.fault;
      reads = c.in-Err.ensures.reads;
      follows = (
        record { unread = refl; unwritten = refl; untaken = refl; unlogged = refl; reported = c.refuse_arguments.ensures.reported; exits = c.code.ensures ∙ ap exit_code c.refuse_arguments.ensures.exit },
        c.leave.ensures,
      );
    }

pub returns-in-Err-clause-status : goal.returns-in-Err-clause-status
returns-in-Err-clause-status g c =
    let reported = c.code.ensures ∙ ap exit_code c.refuse_arguments.ensures.exit in
    (Err c.in-Err.fault, c.in-Err.ensures.reads, subst (λ (status : ℕ). ExitsBy (Err c.in-Err.fault) status) (sym reported) (refused c.in-Err.fault))

-- ---- what was printed of connections

pub returns-in-Ok-clause-log : goal.returns-in-Ok-clause-log
returns-in-Ok-clause-log g c = (Ok c.in-Ok.action, c.in-Ok.ensures.reads, c.run_action-ended.ensures.log)

pub returns-in-Err-clause-log : goal.returns-in-Err-clause-log
returns-in-Err-clause-log g c = (Err c.in-Err.fault, c.in-Err.ensures.reads, refl)
