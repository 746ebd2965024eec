-- The kinds of objects that cores have, and the kinds that cores have in common: the lists of them miss none.
use Rattle.std.proofs.Common.{◌≡◌, Bool, true, arith}
use Rattle.std.specs.List.{list_all, list_any}
use Rattle.osbase.specs.{declared.objects.ObjectKind.ObjectKind, Objects.same_kind}
use Rattle.osplan.specs.declared.plans.TheConstants.{COMMON, KINDS}

-- The kind is one of those that cores have, or that they have in common.
abbrev pub is_there : ObjectKind → Bool
is_there kind = list_any (λ (k : ObjectKind). same_kind k kind) KINDS

abbrev pub is_shared : ObjectKind → Bool
is_shared kind = list_any (λ (k : ObjectKind). same_kind k kind) COMMON

-- If all of these kinds pass a test, each of them does.
pub every-kind : (p : ObjectKind → Bool) → list_all p KINDS ≡ true → (kind : ObjectKind) → is_there kind ≡ true → p kind ≡ true
every-kind p all ObjectKind.Task there = grind arith
every-kind p all kind there = grind arith

pub every-common : (p : ObjectKind → Bool) → list_all p COMMON ≡ true → (kind : ObjectKind) → is_shared kind ≡ true → p kind ≡ true
every-common p all ObjectKind.Mode there = grind arith
every-common p all kind there = grind arith
