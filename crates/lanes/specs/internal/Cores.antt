-- The machine that the fields of a core are.
use Rattle.std.specs.Prelude.{◌^◌, ◌≤◌, take}
use Rattle.lanes.specs.declared.model.machine.Core.TheInside.{Inside}
use Rattle.lanes.specs.Machine.{Machine}
use Rattle.lanes.specs.Sound.{IsSound}

abbrev pub machine_of : Inside → Machine
machine_of c = record {
  count = c.count;
  workers = c.workers;
  capacity = c.capacity;
  sent = take c.workers c.sent;
  taken = take c.workers c.taken;
  closed = take c.workers c.closed;
  stopped = c.stopped;
  turn = c.turn;
}

pub record IsCore (c : Inside) : Type 0 where
  pub few : c.count ≤ 2 ^ 40
  pub lanes : c.workers ≤ 16
  pub room : 1 ≤ c.capacity
  pub sound : IsSound (machine_of c)
