-- The JSON data of a configuration, and the text that it is written as. [own]
use Rattle.std.specs.Prelude.{ℕ, List, codes}
use Rattle.serde_json.specs.Data.{Data, object, no_members, member}
use Rattle.serde_json.specs.Written.{compact_text}
use Rattle.osplan.specs.declared.plans.Plan.{Plan}
use Rattle.osvalues.specs.Data.{core_data, id_data, list_data, name_data, spinlock_data, whole_data}

-- The JSON data of a configuration, with every member, in ascending order of the members' names: the size of a mailbox,
-- the cores, the master core, the application modes, the spinlocks and the version of the format. [own]
abbrev pub config_data : Plan → Data
config_data plan = object
    (member (codes "cap") (whole_data plan.cap)
    (member (codes "cores") (list_data (core_data plan) plan.cores)
    (member (codes "master") (id_data plan.master)
    (member (codes "modes") (list_data name_data plan.modes)
    (member (codes "spinlocks") (list_data (spinlock_data plan) plan.spinlocks)
    (member (codes "version") (whole_data plan.version) no_members))))))

-- The text of a configuration: its data as compact JSON. [own]
abbrev pub config_text : Plan → List ℕ
config_text plan = compact_text (config_data plan)
