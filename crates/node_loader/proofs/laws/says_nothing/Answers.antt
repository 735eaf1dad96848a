use Rattle.std.proofs.Common.{refl}
use Rattle.ua_types.specs.Configuration.{standard}
use Rattle.node_loader.specs.File.{contents_of, parts_of, table_at, nodes_of}
use Rattle.node_loader.specs.Keys.{list_at, number_at, text_at, text_or}
use Rattle.node_loader.specs.Server.{server_of, names_of, sizes_of, tables_of, messages_of, pages_of, times_of, durations_of, duration_at, texts_at}
use Rattle.node_loader.proofs.laws.says_nothing.Goals as goal

pub returns : goal.returns
unfolding standard contents_of parts_of table_at list_at nodes_of number_at text_at text_or server_of names_of sizes_of tables_of messages_of pages_of times_of durations_of duration_at texts_at
returns c = refl
