-- The laws take the root, which the goals do not show.
use Rattle.row_table.proofs.FieldLaws.{no-struct, fields-are}
use Rattle.row_table.proofs.nodes.SoundTree.fields.Goals as goal

pub returns-then-kind-ne-STRUCT : goal.returns-then-kind-ne-STRUCT
returns-then-kind-ne-STRUCT c =
    no-struct _ c.root-root.result c.root-root.ensures.whole c.root-root.ensures.at c.row.result.rows.now c.row.result.at c.row.ensures.rows c.row.ensures.at _ c.kind.ensures c.if-kind-ne-STRUCT.true

pub returns : goal.returns
returns c =
    let kids = c.children.ensures in
    fields-are _ c.root-root.result c.root-root.ensures.whole c.root-root.ensures.at c.row.result.rows.now c.row.result.at c.row.ensures.rows c.row.ensures.at _ c.kind.ensures c.if-kind-ne-STRUCT.false _ kids.whole kids.start kids.end
