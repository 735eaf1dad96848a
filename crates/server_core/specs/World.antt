-- What the server knows.
use Rattle.std.specs.Prelude.{false, Option}
use Rattle.std.specs.FinMap.{empty}
use Rattle.ua_types.specs.Configuration.{Configuration}
use Rattle.ua_space.specs.Nodes.{SpaceState}
use Rattle.server_connections.specs.Connecting.{no_connections}
use Rattle.ua_services.specs.ServicesState.{no_services_used}
use Rattle.server_core.specs.declared.server.Server.{Server}
pub use Rattle.server_core.specs.declared.parts.Core.{Core}
pub use Rattle.server_core.specs.declared.world.World.{World}

-- a server that was told of nothing yet
abbrev pub opening : Configuration → SpaceState → World
opening config space = record {
  framers = empty;
  core = record {
    setting = record { config = config; clock = config.start };
    connections = no_connections;
    services = no_services_used config space;
    is_shut = false;
  };
}

-- a server is its world, or none once it is halted
abbrev pub world_of : Server → Option World
world_of server = server.world
