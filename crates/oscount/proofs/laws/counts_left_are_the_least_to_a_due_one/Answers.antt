use Rattle.oscount.proofs.Settings.{due-at-last, left-least, not-due-before}
use Rattle.oscount.proofs.laws.counts_left_are_the_least_to_a_due_one.Goals as goal

pub returns : goal.returns
returns c setting due = record { later = left-least setting due; due = due-at-last setting due; none = not-due-before setting due }
