use Rattle.std.proofs.Common.{◌≡◌, ◌==◌, length, rules, refl, sym, arith}
use Rattle.std.specs.List.{slice_split}
use Rattle.std.proofs.lemmas.{Grind.common_steps, List.Splits.length-slice_split}
use Rattle.osjson.specs.declared.refusals.Refusal.TheVariants.{Unfit}
use Rattle.osjson.proofs.Each.{each-end, each-more, each-stop}
use Rattle.osjson.proofs.Splitting.{few-read, none-read, over-read}
use Rattle.osjson.proofs.parts.read_parts.Goals as goal

pub loop-left-preserved : goal.loop-left-preserved
loop-left-preserved g c = record {
  few = grind (arith, common_steps);
  reads = rw c.in_ok-push.ensures.ok (each-more _ _ c.first_part.ensures c.in-Some-read.item (sym c.in-Some-read.ensures) (rw c.in-Some.is at c.loop-left.invariant.reads));
}

pub returns-then-len-most : goal.returns-then-len-most
returns-then-len-most g c =
    let at_most : length c.loop-left.read ≡ c.args.most = search rules in
    rw (← c.if-is_empty.ensures, ← at_most) (over-read (g.R.PartReader.shape c.args.reader.now) c.loop-left.read _ (slice_split (λ b. b == c.args.separator) c.in-Some.rest.now) (omega (arith, length-slice_split (λ b. b == c.args.separator) c.in-Some.rest.now)) (rw c.in-Some.is at c.loop-left.invariant.reads))

pub returns-in_default-read : goal.returns-in_default-read
returns-in_default-read g c =
    rw (← c.if-is_empty.ensures) (none-read (g.R.PartReader.shape c.args.reader.now) c.args.most _ (each-stop _ _ c.first_part.ensures Unfit (sym c.in_default-read.ensures) (rw c.in-Some.is at c.loop-left.invariant.reads)))

pub returns : goal.returns
returns g c = rw (← c.if-is_empty.ensures) (few-read (g.R.PartReader.shape c.args.reader.now) c.args.most _ c.loop-left.read (each-end (g.R.PartReader.shape c.args.reader.now) refl (rw c.in_default.is at c.loop-left.invariant.reads)) c.loop-left.invariant.few)
