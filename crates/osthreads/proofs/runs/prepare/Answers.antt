use Rattle.std.proofs.Common.{arith, is_some, ap, ◌∙◌}
use Rattle.osplan.specs.{Limits.sizes_of, View.core_of}
use Rattle.osrun.specs.Fits.{ids_of}
use Rattle.osplan.proofs.{Within.between, Within.cap-within, Within.limit-parts}
use Rattle.osmail.proofs.Chosen.{chosen_cores}
use Rattle.osthreads.proofs.runs.prepare.Goals as goal

pub mail_of-requires-clause-cores : goal.mail_of-requires-clause-cores
mail_of-requires-clause-cores c = rw (c.as_slice.ensures.value, c.in_ok-cores.ensures) (chosen_cores (λ id. is_some (core_of c.plan-plan.result.now id)))

pub mail_of-requires-clause-room : goal.mail_of-requires-clause-room
mail_of-requires-clause-room c =
    let plan = c.plan-plan.result.now in
    omega (arith, c.from.ensures, between 1 16 plan.cap (cap-within (sizes_of plan) (limit-parts plan (rw c.plan-plan.ensures.value c.plan-plan.ensures.limits)).sizes))

pub returns : goal.returns
returns c =
    record {
      limits = c.plan-plan.ensures.limits;
      cores = c.in_ok-cores.ensures ∙ ap ids_of c.plan-plan.ensures.value;
      board = c.in_ok-board.ensures.board;
      bank = c.in_ok-board.ensures.bank;
      outfits = record {
        ends = c.in_ok-mail.ends.items;
        made = rw (c.in_ok-outfits.ensures, c.in_ok-board.ensures.seats);
        ends_for = rw (c.as_slice.ensures.value, c.in_ok-cores.ensures, c.plan-plan.ensures.value) at c.in_ok-mail.ensures.cores;
        all = c.in_ok-mail.ensures.ends;
        unused = c.in_ok-mail.ensures.unused;
      };
      room = rw c.len.ensures at c.in_ok-room.ensures;
    }
