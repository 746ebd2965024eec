-- Turns whose listed run has the same cores and items as these reports have exactly these reports, but for their
-- clocks.
use Rattle.std.proofs.Common.{◌≡◌, ◌<◌, ℕ, List, map, length, get_or, sym, ap, subst, ◌∙◌}
use Rattle.std.proofs.Math.ListN as seq
use Rattle.std.proofs.{lemmas.List.get_or-map, lemmas.Simd.map-map}
use Rattle.std.specs.List.{AllByRecursion}
use Rattle.osbase.specs.{declared.references.CoreId.CoreId, declared.turns.Choice.Choice, declared.turns.CoreStimuli.CoreStimuli, declared.turns.Report.Report, declared.items.Item.Item}
use Rattle.osplan.specs.declared.plans.Plan.{Plan}
use Rattle.osrun.specs.Sound.{IsOwn, lists_in, report_by, unclocked}
use Rattle.osworld.specs.{World.world, Runs.AreReports}
use Rattle.osworld.proofs.Reported.{by-their-items, reports_by}

-- If two lists of reports have the same cores and items, so have the reports at each place.
abbrev Listed : Type 0
Listed = CoreId × List Item

pub same-at : (left right : List Report) (i : ℕ) (a b : Report) → a ≡ get_or left i a → b ≡ get_or right i b → i < length right → lists_in left ≡ lists_in right
    → (a.core ≡ b.core) × (a.items ≡ b.items)
same-at left right i a b a_is b_is within same =
    let listed : Report → Listed = (λ (r : Report). (r.core, r.items)) in
    let both : listed a ≡ listed b =
    ap listed a_is ∙ sym (seq.get_or-map listed left i a) ∙ ap (λ (ls : List Listed). get_or ls i (listed a)) same
    ∙ get_or-map listed right i b (listed a) within ∙ sym (ap listed b_is) in
    (ap (λ (p : Listed). p.0) both, ap (λ (p : Listed). p.1) both)

module _ (plan : Plan) (stimuli : List CoreStimuli) (turns : List (CoreId × Choice)) (listed reports : List Report) (are : AreReports plan stimuli turns listed) (own : AllByRecursion (IsOwn plan) reports) (same : lists_in listed ≡ lists_in reports) where
  same_reports : listed ≡ map unclocked reports
  same_reports =
      are.are ∙ sym (ap (λ (rs : List Report). map unclocked rs) are.are ∙ map-map unclocked (λ (p : CoreId × List Item). report_by plan p.0 p.1) (world plan stimuli turns).items)
      ∙ by-their-items plan listed are.sound.own ∙ ap (reports_by plan) same ∙ sym (by-their-items plan reports own)

  pub ordered : AreReports plan stimuli turns (map unclocked reports)
  ordered = subst (AreReports plan stimuli turns) same_reports are

  pub no_others : (others : List Report) → AreReports plan stimuli turns others → others ≡ map unclocked reports
  no_others others they = they.are ∙ sym are.are ∙ same_reports
