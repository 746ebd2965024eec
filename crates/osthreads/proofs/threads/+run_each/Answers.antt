use Rattle.std.proofs.Common.{◌≡◌, ◌++◌, ◌∷◌, [], List, map, ap, ◌∙◌, arith}
use Rattle.osbase.specs.declared.references.CoreId.{CoreId}
use Rattle.osworker.specs.{declared.run.Run.Run, Seats.shared}
use Rattle.osthreads.specs.{declared.ending.Ending.Ending, declared.ending.Outfit.Outfit}
use Rattle.osthreads.specs.Threads.{AreEnded, IsEnded, end_kept, end_of, outfit_cores, which_end}
use Rattle.osmail.proofs.Through.{map-snoc}
use Rattle.osthreads.proofs.{Gathering.ended-push, Outfits.all_snoc}
use Rattle.osthreads.proofs.threads.+run_each.Goals as goal

abbrev EndedIn : Run → CoreId → Ending → Type 0
EndedIn run id e = IsEnded run.config.now run.stimuli.now run.turns (shared run.board.now run.bank.now) id e

abbrev AllEndedIn : Run → List CoreId → List Ending → Type 0
AllEndedIn run ids es = AreEnded run.config.now run.stimuli.now run.turns (shared run.board.now run.bank.now) ids es

-- one outfit and one ending more
ended-more : (run : Run) (os rest : List Outfit) (outfit : Outfit) (es more : List Ending) (e : Ending) → os ≡ rest ++ outfit ∷ [] → more ≡ es ++ e ∷ [] → AllEndedIn run (outfit_cores rest) es → EndedIn run outfit.seats.board.core e → AllEndedIn run (outfit_cores os) more
ended-more run os rest outfit es more e split pushed ended here =
    rw (split, map-snoc (λ (o : Outfit). o.seats.board.core) rest outfit, pushed)
    (ended-push run.config.now run.stimuli.now run.turns (shared run.board.now run.bank.now) (outfit_cores rest) es outfit.seats.board.core e ended here)

-- the end of the rings that the worker gave back is the one that its outfit had
ends-more : (os rest : List Outfit) (outfit : Outfit) (es more : List Ending) (e : Ending) → os ≡ rest ++ outfit ∷ [] → more ≡ es ++ e ∷ [] → map end_kept es ≡ map end_of rest → end_kept e ≡ end_of outfit → map end_kept more ≡ map end_of os
ends-more os rest outfit es more e split pushed ends here = rw (split, pushed, map-snoc end_kept es e, map-snoc end_of rest outfit, ends, here)

pub start-started-requires-after_bounds : goal.start-started-requires-after_bounds
start-started-requires-after_bounds g n c lifetimes outlive = (all_snoc _ c.pop.new.self.items c.in-Some.last (rw c.in-Some.ensures.items at c.requires.outfits.ready)).1

pub run_each-complete-requires-clause-outfits : goal.run_each-complete-requires-clause-outfits
run_each-complete-requires-clause-outfits g n c lifetimes outlive = record {
  ready = (all_snoc _ c.pop.new.self.items c.in-Some.last (rw c.in-Some.ensures.items at c.requires.outfits.ready)).0;
  empty = search;
  room = omega (arith, c.in-Some.ensures.len, c.requires.outfits.room);
}

pub returns-in-Ok-clause-ended : goal.returns-in-Ok-clause-ended
returns-in-Ok-clause-ended g n c =
    ended-more c.args.run.now c.args.outfits.now.items c.pop.new.self.items c.in-Some.last c.run_each-complete.new.endings.items _ c.join.result c.in-Some.ensures.items c.push_reserved.ensures.items
    c.run_each-complete.ensures.ended (rw (c.in-Ok.ensures.run, c.in-Ok.ensures.id) at c.join.ensures.0)

pub returns-in-Err-clause-ended : goal.returns-in-Err-clause-ended
returns-in-Err-clause-ended g n c =
    ended-more c.args.run.now c.args.outfits.now.items c.pop.new.self.items c.in-Some.last c.run_each-complete.new.endings.items _ c.in-Err.ending c.in-Some.ensures.items c.push_reserved-in-Err.ensures.items
    c.run_each-complete.ensures.ended c.in-Err.ensures.here.0

pub returns-in-Ok-clause-ends : goal.returns-in-Ok-clause-ends
returns-in-Ok-clause-ends g n c =
    ends-more _ _ c.in-Some.last _ _ c.join.result c.in-Some.ensures.items c.push_reserved.ensures.items c.run_each-complete.ensures.ends (c.join.ensures.1 ∙ ap which_end c.in-Ok.ensures.end)

pub returns-in-Err-clause-ends : goal.returns-in-Err-clause-ends
returns-in-Err-clause-ends g n c =
    ends-more _ _ c.in-Some.last _ _ c.in-Err.ending c.in-Some.ensures.items c.push_reserved-in-Err.ensures.items c.run_each-complete.ensures.ends c.in-Err.ensures.here.1
