-- The nodes that are the fields of a Struct.
use Rattle.std.specs.Prelude.{◌≡◌, ◌/◌, length}
use Rattle.tokenizer.specs.Answer.{done}
use Rattle.datatype.specs.Table.{row_words}
unfoldable pub use Rattle.row_table.specs.Sound.{is_struct, fields_of, struct_fields}
use Rattle.row_table.specs.Nodes.{labels_in}
use Rattle.row_table.specs.declared.nodes.SoundTree.{SoundTree}
use Rattle.row_table.specs.declared.nodes.Nodes.{Nodes}

-- Of a sound tree: all rows but the root's.
pub record AreFields (whole : SoundTree) (fields : Nodes) : Type 0 where
  pub of : fields.whole.now ≡ whole
  pub start : fields.start ≡ 1
  pub end : fields.end ≡ length whole.tree.rows.now / row_words
  pub say : struct_fields whole.tree.text.now whole.tree.names.now whole.tree.rows.now ≡ done (labels_in fields)
