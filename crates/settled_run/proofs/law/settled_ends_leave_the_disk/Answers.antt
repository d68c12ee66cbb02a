use Rattle.settled_run.proofs.Left.{disk_left}
use Rattle.settled_run.proofs.law.settled_ends_leave_the_disk.Goals as goal

pub returns : goal.returns
returns c = λ program code bound files cores ports terms worker entries popped before after ended valid is_code settled all work are served made.
    disk_left code valid.lists.links ports worker settled program bound files cores terms entries popped before after ended is_code all work are served made
