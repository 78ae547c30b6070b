mod FolderLemmas
mod QueryLemmas
